-- What is held after several words, for the contracts of the private functions that hear two or
-- eight of them at once.
use Rattle.std.specs.Prelude.{ℕ, Bool, List, [], ◌∷◌, ◌++◌, map}
use Rattle.circular_buffer.specs.Buffer.{keep_last}
use Rattle.nx_code.specs.Word.{is_wrong}
use Rattle.nx_sync.specs.Words.{marked_words}
use Rattle.nx_sync.specs.Synchroniser.{Held}
use Rattle.nx_sync.specs.private.Windows.{next_word_window}

-- whether each of these words has the wrong weight
abbrev pub wrong_ones : List ℕ → List Bool
wrong_ones = map is_wrong

-- the marks after those of these words, whether each is wrong
unfoldable pub marks_after_words : List Bool → List ℕ → List Bool
marks_after_words marks [] = marks
marks_after_words marks (word ∷ words) =
    marks_after_words (keep_last marked_words (marks ++ is_wrong word ∷ [])) words

-- the window after these words
unfoldable pub window_after_words : ℕ → List ℕ → ℕ
window_after_words window [] = window
window_after_words window (word ∷ words) = window_after_words (next_word_window window word) words

-- What is held after words of the lock that is followed, in pairs, where `keeps_lock` says that
-- none of them brings a change. The track stays: the next word is a DX word again, and none of the
-- DX words before it was phasing signal 1.
abbrev pub after_words : Held → List ℕ → Held
after_words held words = record held {
  recent = window_after_words held.recent words;
  wrong = marks_after_words held.wrong words;
}
