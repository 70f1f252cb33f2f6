-- The message EA01 is heard on channel 1 where an entry of it is 66 hours old: it meets what is
-- asked of a message that is printed once.
use Rattle.std.proofs.Common.{◌≡◌, ℕ, false, List, [], ◌∷◌, ◌++◌, length, refl, sym, ap}
use Rattle.std.proofs.Common.{◌∙◌, ◌<◌, arith, length-append, lit<, lit≤}
use Rattle.std.proofs.lemmas.Bool.{true≢false}
use Rattle.std.proofs.lemmas.List.Elements.{All-cons, All-nil}
use Rattle.nx_fec.specs.air_files.Lines.{file_of}
use Rattle.nx_fec.specs.declared.air_files.channel.Channel.TheVariants.{One}
use Rattle.nx_memory.specs.Content.{IsLater}
use Rattle.nx_memory.specs.Saved.{AreSavedStates}
use Rattle.nx_memory.specs.Selection.{IsRefusable}
use Rattle.nx_memory.specs.declared.memories.entry.MemoryEntry.{MemoryEntry}
use Rattle.nx_memory.proofs.lemmas.Letters.{contains-none}
use Rattle.nx_station.specs.reception.PathExample.{example_message, example_parts, example_sending}
use Rattle.nx_promises.specs.examples.Again.{old_entry, saved_long_ago}
use Rattle.nx_promises.specs.examples.Channels.{two_channels}
use Rattle.nx_copies.specs.laws.Emissions.{copy_of_sending}
use Rattle.nx_copies.specs.Events.{first_setting, none_refused}
use Rattle.nx_copies.specs.copies.FoundCopies.{TaggedCopy, tag, tagged_copies}
use Rattle.nx_receiver.specs.air_file_runs.Listen.{AreTaken, IsLogOf, events_on}
use Rattle.nx_receiver.specs.air_file_runs.ListenOnce.{IsHeardInTimeOn}
use Rattle.nx_copies.specs.laws.Once.{IsUnknownAtFirst}
use Rattle.nx_copies.specs.copies.Printing.{entries_after, entries_made, is_remembered}
use Rattle.nx_copies.specs.copies.Shares.{starts_from}
use Rattle.nx_promises.specs.examples.Emission.{at_its_slot}
use Rattle.nx_receiver.specs.private.Taken.{AreTakenAfter}
use Rattle.nx_promises.proofs.lemmas.examples.AirFile.{all-found, begun, heard-there, tagged-is}
use Rattle.nx_promises.proofs.lemmas.examples.Channels.{file-is, heard-on_1}
use Rattle.nx_promises.proofs.lemmas.examples.Emission.{first_bits}
use Rattle.nx_receiver.proofs.lemmas.listening.Moments.{some-closed}
use Rattle.nx_receiver.proofs.lemmas.listening.Taken.{are-taken}
use Rattle.nx_memory.proofs.lemmas.StateTexts.{nothing_sound}

-- the copy that is heard
abbrev copy : TaggedCopy
copy = tag (first_setting at_its_slot) (copy_of_sending (example_sending first_bits))

-- an entry of 66 hours isn't live
not-live : is_remembered (old_entry ∷ []) copy ≡ false
unfolding tag
not-live = refl

none-made : entries_after (old_entry ∷ []) [] ≡ old_entry ∷ []
unfolding entries_made
none-made = refl

unknown-one : (copies before after : List TaggedCopy) (first : TaggedCopy) → copies ≡ copy ∷ []
    → copies ≡ before ++ first ∷ after
    → is_remembered (entries_after (old_entry ∷ []) before) first ≡ false
unknown-one copies [] after first is whole =
    let same : first ≡ copy = cc in
    ap (λ es. is_remembered es first) none-made
    ∙ ap (is_remembered (old_entry ∷ [])) same ∙ not-live
unknown-one copies (one ∷ before) after first is whole =
    absurd (omega (arith, ap length is, ap length whole, length-append before (first ∷ after)))

unknown : IsUnknownAtFirst (old_entry ∷ []) example_message.identity
    (tagged_copies (first_setting (begun (old_entry ∷ []) 1735454400 (events_on One two_channels)
    heard-on_1)) (events_on One two_channels)
    (all-found (old_entry ∷ []) 1735454400 (events_on One two_channels) heard-on_1))
unknown before after first whole none named =
    unknown-one _ before after first
    (tagged-is (old_entry ∷ []) 1735454400 (events_on One two_channels) heard-on_1) whole

pub heard-again : IsHeardInTimeOn One (starts_from saved_long_ago) (file_of two_channels)
    example_message
heard-again = record {
  lines = two_channels;
  spelled = file-is;
  parts = example_parts first_bits [];
  heard = heard-there (old_entry ∷ []) 1735454400 (events_on One two_channels) heard-on_1 unknown;
}

taken : AreTaken (starts_from saved_long_ago) two_channels
unfolding AreTakenAfter
taken =
    are-taken (starts_from saved_long_ago) two_channels (lit≤ tt)
    ((lit≤ tt, lit≤ tt), (refl, (refl, (refl, (refl, (refl, (refl, tt)))))))

pub logged-again : (log : List ℕ) × IsLogOf (starts_from saved_long_ago) (file_of two_channels) log
logged-again = some-closed (starts_from saved_long_ago) (file_of two_channels) two_channels file-is
    taken

-- ---- the start can be saved

refusable : IsRefusable none_refused
refusable = record {
  stations = λ byte h. absurd (true≢false (sym h ∙ contains-none byte));
  subjects = λ byte h. absurd (true≢false (sym h ∙ contains-none byte));
  without_vital = λ subject vital. contains-none subject;
}

pub can-be-saved : AreSavedStates saved_long_ago
can-be-saved = record {
  on_0 = nothing_sound;
  on_1 = record {
    refused = refusable;
    entries = record {
      content = record {
        bounded = lit≤ tt;
        numbered = All-cons (λ (entry : MemoryEntry). 0 < entry.identity.number) old_entry []
            (lit< tt) (All-nil (λ (entry : MemoryEntry). 0 < entry.identity.number));
        in_turn = (All-nil (IsLater old_entry), tt);
      };
      in_range = lit≤ tt;
    };
  };
  on_2 = nothing_sound;
}
