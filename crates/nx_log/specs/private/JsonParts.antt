-- A line of JSON, before the text of its entry and behind it (RFC 8259; its keys are this
-- profile's).
use Rattle.std.specs.Prelude.{ℕ, Bool, true, false, List, [], ◌∷◌, ◌++◌, codes, decimal, option_map, Option, None, Some}
use Rattle.nx_envelope.specs.Identity.{identity_bytes}
use Rattle.nx_fec.specs.air_files.Channels.{channel_number}
use Rattle.nx_log.specs.declared.entries.head.LoggedHead.{LoggedHead}
use Rattle.nx_copies.specs.copies.Log.{how_name}
use Rattle.nx_log.specs.declared.writing.places.Places.{Places}

-- a truth value
abbrev pub truth_name : Bool → List ℕ
truth_name true = codes "true"
truth_name false = codes "false"

-- up to the identity, of an entry that is good or isn't
abbrev pub json_front : LoggedHead → Bool → List ℕ
json_front head good =
    codes "{\"channel\":" ++ decimal (channel_number head.channel)
    ++ codes ",\"characters\":" ++ decimal head.characters
    ++ codes ",\"end\":\"" ++ how_name head.how
    ++ codes "\",\"errors\":" ++ decimal head.errors
    ++ codes ",\"good\":" ++ truth_name good
    ++ codes ",\"identity\":\"" ++ identity_bytes head.identity

-- a key and its number, where there is one
abbrev pub counted : List ℕ → Option ℕ → List ℕ
counted key None = []
counted key (Some n) = key ++ decimal n

-- from there up to the text, with the places, where they are told
abbrev pub json_middle : LoggedHead → Option Places → List ℕ
json_middle head places =
    codes "\",\"moment\":" ++ decimal head.moment
    ++ counted (codes ",\"next\":") (option_map (λ p. p.next) places)
    ++ codes ",\"number\":" ++ decimal head.identity.number
    ++ counted (codes ",\"place\":") (option_map (λ p. p.place) places)
    ++ codes ",\"station\":\"" ++ head.identity.b1.byte
    ∷ codes "\",\"subject\":\"" ++ head.identity.b2.byte ∷ codes "\",\"text\":\""

-- behind the text, with the text of its time
abbrev pub json_tail : List ℕ → List ℕ
json_tail time = codes "\",\"time\":\"" ++ time ++ codes "\"}\n"
