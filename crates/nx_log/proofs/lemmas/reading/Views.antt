-- An entry by the pieces that are read of it.
use Rattle.std.proofs.Common.{◌≡◌, ℕ, ◌-◌, List, [], ◌∷◌, ◌++◌, length, take, ap, ◌∙◌, refl, arith, append_assoc}
use Rattle.std.specs.Prelude.{IsTrue}
use Rattle.std.specs.List.{All}
use Rattle.std.proofs.lemmas.List.{length-append, take-append-le, take_all}
use Rattle.nx_envelope.specs.Copies.{errors_of}
use Rattle.nx_code.specs.Reading.{newline}
use Rattle.nx_log.specs.declared.entries.head.LoggedHead.{LoggedHead}
use Rattle.nx_log.specs.declared.entries.entry.EntryView.{EntryView}
use Rattle.nx_log.specs.private.Heads.{BeginsWithHead, IsHead, head_and}
use Rattle.nx_copies.specs.copies.Log.{IsEntry, channel_mark, entry_head, how_name, missing_newline}
use Rattle.std.specs.Prelude.{codes, decimal}
use Rattle.std.proofs.Common.{append-nil, sym}
use Rattle.nx_envelope.specs.Identity.{identity_bytes}
use Rattle.nx_log.specs.Logged.{is_text_byte}
use Rattle.nx_log.specs.View.{IsViewOf, copy_said}
use Rattle.nx_log.proofs.lemmas.reading.Entries.{body_and, in_order}

-- more stands behind a head, and more behind that
head_more : (head : LoggedHead) (civil x y : List ℕ)
    → head_and head civil (x ++ y) ≡ head_and head civil x ++ y
head_more head civil x y = simp append_assoc

body_more : (text more : List ℕ) → body_and text more ≡ body_and text [] ++ more
body_more text more = simp append_assoc

-- the bytes of the entry of a head and a text
pub is_entry : (head : LoggedHead) (text bytes more : List ℕ)
    → (h : BeginsWithHead bytes head more) → head.errors ≡ errors_of text
    → head.characters ≡ length text
    → IsEntry (copy_said head text) (head_and head h.civil (body_and text []))
unfolding entry_head
is_entry head text bytes more h errors characters = record {
  civil = h.civil;
  shown = h.shown;
  spelled = rw (errors, characters) (
      sym (in_order (codes "[") (identity_bytes head.identity) (channel_mark head.channel)
      (codes " ") h.civil (how_name head.how) (decimal (errors_of text)) (codes "/")
      (decimal (length text)) (codes "]\n") text (missing_newline text) (newline ∷ []) [])
      ∙ append-nil _);
}

-- the bytes begin with the entry of a head and the text behind it
pub is_view : (bytes rest back last : List ℕ) (head : LoggedHead) (text : List ℕ)
    (view : EntryView) → BeginsWithHead bytes head rest → IsHead head
    → rest ≡ text ++ back → back ≡ (missing_newline text ++ newline ∷ []) ++ last
    → head.errors ≡ errors_of text → head.characters ≡ length text
    → All (λ byte. IsTrue (is_text_byte byte)) text
    → view.head ≡ head → view.text.now ≡ text → view.len ≡ length bytes - length last
    → IsViewOf bytes view
is_view bytes rest back last head text view h is split end errors characters letters
    same_head same_text len =
    let entry = head_and head h.civil (body_and text []) in
    let body : rest ≡ body_and text last = split ∙ ap (λ l. text ++ l) end ∙ simp append_assoc in
    let whole : bytes ≡ entry ++ last =
    h.spelled ∙ ap (head_and head h.civil) (body ∙ body_more text last)
    ∙ head_more head h.civil (body_and text []) last in
    let long = ap length whole ∙ length-append entry last in
    let count : view.len ≡ length entry = len ∙ omega (arith, long) in
    let taken : take view.len bytes ≡ entry =
    ap (λ n. take n bytes) count ∙ ap (take (length entry)) whole
    ∙ take-append-le (length entry) entry last (omega arith)
    ∙ take_all (length entry) entry (omega arith) in
    let short = is.short in
    record {
      within = omega (arith, long);
      entry = rw (same_head, same_text, taken) (record {
        logged = record {
          in_range = is.in_range;
          short = omega arith;
          text = letters;
          selected = refl;
        };
        entry = is_entry head text bytes rest h errors characters;
      });
      errors = rw (same_head, same_text) errors;
      characters = rw (same_head, same_text) characters;
    }
