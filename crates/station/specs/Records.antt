-- The records of a station by their keys.
use Rattle.std.specs.Prelude.{ℕ, ◌-◌, Bool, ◌&&◌, ◌==◌, nat_lt}
use Rattle.station.specs.declared.records.AssociationKey.{AssociationKey}
use Rattle.station.specs.declared.records.SecurityAssociation.{SecurityAssociation}
use Rattle.station.specs.declared.records.HeardKey.{HeardKey}

-- an association is held under its destination network and its SPI
abbrev pub association_key : SecurityAssociation → AssociationKey
association_key a = record { destination = a.destination; spi = a.spi }

abbrev pub same_association : AssociationKey → AssociationKey → Bool
same_association j k = j.destination == k.destination && j.spi == k.spi

-- an association is live while the reading is below its hard expiry
abbrev pub live : ℕ → SecurityAssociation → Bool
live reading a = nat_lt reading a.hard

-- and the tick before is its last
abbrev pub association_last : SecurityAssociation → ℕ
association_last a = a.hard - 1

-- two messages are the same if network, SPI, stamp, NE-Id and Prop are
abbrev pub same_heard : HeardKey → HeardKey → Bool
same_heard j k = j.network == k.network && (j.spi == k.spi && (j.tvp == k.tvp && (j.ne_id == k.ne_id && j.prop == k.prop)))
