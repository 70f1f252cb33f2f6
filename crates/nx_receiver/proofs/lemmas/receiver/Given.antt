-- The head of a copy that a finder has, which is judged where it lies.
use Rattle.std.proofs.Common.{◌≡◌, ℕ, ◌<◌, ◌≤◌, Bool, true, false, List, [], ◌∷◌, Option, None, Some}
use Rattle.std.proofs.Common.{IsNone, is_some, length, refl, ap, ap₂, sym, ◌∙◌, subst, arith}
use mir.Val.{bool_byte}
use Rattle.std.specs.Prelude.{IsSome, MatchOption, ◌↔◌}
use Rattle.nx_envelope.specs.Copies.{Copy}
use Rattle.nx_envelope.specs.Finder.{HasReady, is_ready, is_ready_copy}
use Rattle.nx_envelope.specs.Found.{IsHeadOf}
use Rattle.nx_envelope.specs.declared.finder.Finder.{Finder}
use Rattle.nx_envelope.specs.declared.found.FoundHead.{FoundHead}
use Rattle.nx_envelope.specs.declared.found.HeldCopy.{HeldCopy}
use Rattle.nx_envelope.specs.declared.found.HeldCopy.TheVariants as held
use Rattle.nx_copies.specs.copies.FoundCopies.{headed_copy}
use Rattle.nx_receiver.specs.Receiver.{headed_list}
use Rattle.nx_copies.specs.declared.copy_taker.CopyTag.{CopyTag}
use Rattle.nx_copies.specs.declared.entry.EntryHead.{EntryHead}
use Rattle.nx_copies.specs.ReaderWords.{is_open}
use Rattle.nx_copies.specs.hearing.CopyHearer.{ready_in}

-- the copy that can be taken, with its head
pub record HasHead (finder : Finder) (head : FoundHead) : Type 0 where
  pub copy : Copy
  pub ready : HasReady finder copy
  pub is : IsHeadOf copy head

-- a finder that can hand out a copy has one
any_held : (copy : HeldCopy) (finder : Finder) → finder.copy ≡ copy → is_ready_copy copy ≡ true
    → (one : Copy) × HasReady finder one
any_held held.Nothing finder is ready = cc
any_held (held.Open identity fresh) finder is ready = cc
any_held (held.Ready identity how) finder is ready = (
  record {
    header = record { identity = identity; behind = 0 };
    how = how;
    text = finder.text;
  },
  record { held = is; text = refl },
)

-- a head that was answered is that of a copy
some_head : (finder : Finder) (found : Option FoundHead) (head : FoundHead) (ready : Bool)
    → found ≡ Some head → is_ready finder ≡ ready
    → (IsNone found ↔ (is_ready finder ≡ false))
    → ((copy : Copy) → HasReady finder copy → MatchOption found ⊥ (IsHeadOf copy))
    → HasHead finder head
some_head finder found head true is ready none all =
    let one = any_held finder.copy finder refl ready in record {
      copy = one.0;
      ready = one.1;
      is = subst (λ o. MatchOption o ⊥ (IsHeadOf one.0)) is (all one.0 one.1);
    }
some_head finder found head false is ready none all =
    let e : true ≡ false = subst IsNone is (none.1 ready) in cc

pub has_head : (finder : Finder) (found : Option FoundHead) (head : FoundHead)
    → found ≡ Some head → (IsNone found ↔ (is_ready finder ≡ false))
    → ((copy : Copy) → HasReady finder copy → MatchOption found ⊥ (IsHeadOf copy))
    → HasHead finder head
has_head finder found head is none all =
    some_head finder found head (is_ready finder) is refl none all

-- the head of an entry, by that of its copy and its moment
abbrev pub with_moment : FoundHead → ℕ → EntryHead
with_moment head moment = record {
  identity = head.identity;
  moment = moment;
  how = head.how;
  errors = head.errors;
}

-- what the finder has to hand out is the copy of its head, of its text and of the tag
pub headed_ready : (finder : Finder) (head : FoundHead) (kept : CopyTag) → HasHead finder head
    → ready_in finder.copy finder.text kept
    ≡ headed_copy (with_moment head kept.moment) finder.text kept.is_selected ∷ []
headed_ready finder head kept has =
    ap (λ one. ready_in one finder.text kept) has.ready.held
    ∙ ap₂ (λ identity how. record {
      identity = identity;
      how = how;
      text = finder.text;
      moment = kept.moment;
      selected = kept.is_selected;
    } ∷ []) (sym has.is.identity) (sym has.is.how)

pub ready_not_open : (copy : HeldCopy) → is_ready_copy copy ≡ true → is_open copy ≡ false
ready_not_open held.Nothing e = cc
ready_not_open (held.Open identity fresh) e = cc
ready_not_open (held.Ready identity how) e = refl

-- no head is that of no copy
pub no_head : (head : Option EntryHead) (text : List ℕ) (test : Bool) → test ≡ is_some head
    → test ≡ false → headed_list head text ≡ []
no_head None text test h e = refl
no_head (Some head) text test h e = cc

-- how many copies a head is that of
pub heads_few : (head : Option EntryHead) (text : List ℕ) (n : ℕ) → (IsSome head → 0 < n)
    → length (headed_list head text) ≤ n
heads_few None text n some = omega arith
heads_few (Some head) text n some = omega (arith, some refl)

pub heads_counted : (head : Option EntryHead) (text : List ℕ) (is : Bool) (k : ℕ)
    → is ≡ is_some head → k ≡ bool_byte is → k ≡ length (headed_list head text)
heads_counted None text is k h e = e ∙ ap bool_byte h
heads_counted (Some head) text is k h e = e ∙ ap bool_byte h
