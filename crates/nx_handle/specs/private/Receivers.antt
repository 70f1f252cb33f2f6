-- What only private contracts and proofs cite, beside Receivers (this profile).
use Rattle.nx_handle.specs.Receivers.{Listening}

abbrev pub three : {P : Type 0} → P → P → P → Listening P
three on_0 on_1 on_2 = record { on_0 = on_0; on_1 = on_1; on_2 = on_2 }
