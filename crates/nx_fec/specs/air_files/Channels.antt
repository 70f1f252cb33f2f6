-- The channels of an air file: three frequencies that a receiver hears at once (this profile).
use Rattle.std.specs.Prelude.{ℕ, ◌==◌, Bool, Option, unwrap_or}
use Rattle.nx_fec.specs.declared.air_files.channel.Channel.{Channel}
use Rattle.nx_fec.specs.declared.air_files.channel.Channel.TheVariants.{Zero, One, Two}

-- the number of a channel
abbrev pub channel_number : Channel → ℕ
channel_number Zero = 0
channel_number One = 1
channel_number Two = 2

-- whether two channels are the same
abbrev pub same_channel : Channel → Channel → Bool
same_channel one other = channel_number one == channel_number other

-- the channel that a line belongs to: the one that it names, or channel 0 where it names none
abbrev pub channel_of : Option Channel → Channel
channel_of mark = unwrap_or mark Zero
