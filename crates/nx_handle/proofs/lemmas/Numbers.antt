-- The status of a number.
use Rattle.std.proofs.Common.{◌≡◌, ◌≢◌, ◌≤◌, ◌<◌, ◌+◌, ℕ, zero, suc, List, [], ◌∷◌, length, arith, refl, ap, ◌∙◌, Option, Some, None, MatchOption}
use Rattle.std.specs.Borrow.{Bor}
use Rattle.std.specs.Prelude.{slice_index_or}
use Rattle.std.specs.Option.{option_copied}
use Rattle.std.specs.Slice.{IsItemAt}
use Rattle.nx_handle.specs.Status.{number_of}
use Rattle.nx_handle.specs.declared.status.Status.{Status}
use Rattle.nx_handle.specs.declared.status.Status.TheVariants as status

small-number : (one : Status) → number_of one ≤ 38
small-number status.Done = omega arith
small-number status.NoRoom = omega arith
small-number status.Read = omega arith
small-number status.Write = omega arith
small-number status.Memory = omega arith
small-number status.FileTooLong = omega arith
small-number status.AirTooLong = omega arith
small-number status.LineLong = omega arith
small-number status.LineCut = omega arith
small-number status.BadLine = omega arith
small-number status.NoMoment = omega arith
small-number status.MomentRange = omega arith
small-number status.MomentBack = omega arith
small-number status.Vital = omega arith
small-number status.StateLine = omega arith
small-number status.StateCut = omega arith
small-number status.StateNoRoom = omega arith
small-number status.Ragged = omega arith
small-number status.NoSuchCharacter = omega arith
small-number status.LongLine = omega arith
small-number status.BadCharacter = omega arith
small-number status.Reserved = omega arith
small-number status.LongText = omega arith
small-number status.Open = omega arith
small-number status.NoMessages = omega arith
small-number status.MixedStations = omega arith
small-number status.NoSlot = omega arith
small-number status.SlotFull = omega arith
small-number status.NoStation = omega arith
small-number status.WrongWord = omega arith
small-number status.Unpaired = omega arith
small-number status.BadEnvelope = omega arith
small-number status.Closed = omega arith
small-number status.AlreadyOpen = omega arith
small-number status.NoChannel = omega arith
small-number status.NoElement = omega arith
small-number status.NoSubject = omega arith
small-number status.NoEntry = omega arith
small-number status.TooManyFamilies = omega arith

-- each status stands at the place of its number, from one on
abbrev pub Numbered : ℕ → List Status → Type 0
Numbered first [] = Unit {0}
Numbered first (one ∷ more) = (number_of one ≡ first) × Numbered (first + 1) more

at-place : (statuses : List Status) (first place : ℕ) (other : Status) → Numbered first statuses
    → place < length statuses → number_of (slice_index_or statuses place other) ≡ first + place
at-place [] first place other h lt = absurd (omega (arith, lt))
at-place (one ∷ more) first zero other h lt = h.0 ∙ omega arith
at-place (one ∷ more) first (suc place) other h lt =
    at-place more (first + 1) place other h.1 (omega (arith, lt)) ∙ omega arith

-- all of them
abbrev pub all-statuses : List Status
all-statuses =
    status.Done ∷ status.NoRoom ∷ status.Read ∷ status.Write ∷ status.Memory ∷
    status.FileTooLong ∷ status.AirTooLong ∷ status.LineLong ∷ status.LineCut ∷ status.BadLine ∷
    status.NoMoment ∷ status.MomentRange ∷ status.MomentBack ∷ status.Vital ∷ status.StateLine ∷
    status.StateCut ∷ status.StateNoRoom ∷ status.Ragged ∷ status.NoSuchCharacter ∷
    status.LongLine ∷ status.BadCharacter ∷ status.Reserved ∷ status.LongText ∷ status.Open ∷
    status.NoMessages ∷ status.MixedStations ∷ status.NoSlot ∷ status.SlotFull ∷
    status.NoStation ∷ status.WrongWord ∷ status.Unpaired ∷ status.BadEnvelope ∷ status.Closed ∷
    status.AlreadyOpen ∷ status.NoChannel ∷ status.NoElement ∷ status.NoSubject ∷
    status.NoEntry ∷ status.TooManyFamilies ∷ []

pub all-numbered : Numbered 0 all-statuses
all-numbered = (
  refl,
  (
    refl,
    (
      refl,
      (
        refl,
        (
          refl,
          (
            refl,
            (
              refl,
              (
                refl,
                (
                  refl,
                  (
                    refl,
                    (
                      refl,
                      (
                        refl,
                        (
                          refl,
                          (
                            refl,
                            (
                              refl,
                              (
                                refl,
                                (
                                  refl,
                                  (
                                    refl,
                                    (
                                      refl,
                                      (
                                        refl,
                                        (
                                          refl,
                                          (
                                            refl,
                                            (
                                              refl,
                                              (
                                                refl,
                                                (
                                                  refl,
                                                  (
                                                    refl,
                                                    (
                                                      refl,
                                                      (
                                                        refl,
                                                        (
                                                          refl,
                                                          (
                                                            refl,
                                                            (
                                                              refl,
                                                              (
                                                                refl,
                                                                (
                                                                  refl,
                                                                  (
                                                                    refl,
                                                                    (
                                                                      refl,
                                                                      (
                                                                        refl,
                                                                        (
                                                                          refl,
                                                                          (
                                                                            refl,
                                                                            (
                                                                              refl,
                                                                              tt,
                                                                            ),
                                                                          ),
                                                                        ),
                                                                      ),
                                                                    ),
                                                                  ),
                                                                ),
                                                              ),
                                                            ),
                                                          ),
                                                        ),
                                                      ),
                                                    ),
                                                  ),
                                                ),
                                              ),
                                            ),
                                          ),
                                        ),
                                      ),
                                    ),
                                  ),
                                ),
                              ),
                            ),
                          ),
                        ),
                      ),
                    ),
                  ),
                ),
              ),
            ),
          ),
        ),
      ),
    ),
  ),
)

pub status-at : (statuses : List Status) (number : ℕ) (found : Option (Bor Status))
    → Numbered 0 statuses → length statuses ≡ 39 → IsItemAt statuses number found
    → MatchOption (option_copied found) ((one : Status) → number_of one ≢ number)
    (λ one. number_of one ≡ number)
status-at statuses number None h all is = λ one e.
    omega (arith, is.3, all, small-number one, e)
status-at statuses number (Some one) h all is =
    ap number_of is.1 ∙ at-place statuses 0 number one.now h is.3.0 ∙ omega arith
