-- A cipher bank and a tag bank, lent together.
use Rattle.std.specs.Prelude.{◌≡◌, ℕ, List}
use Rattle.banks.specs.Ciphers.{Ciphers}
use Rattle.banks.specs.Tags.{Tags}
use Rattle.banks.specs.declared.Banks.{Banks}

-- both banks mean what they meant before; `meaning` and `tag_meaning` are what a bank of either sort means
pub record MeanTheSame {C T : Type 0} (meaning : C → Ciphers) (tag_meaning : T → Tags) (before after : Banks C T) : Type 0 where
  pub ciphers : meaning after.ciphers ≡ meaning before.ciphers
  pub tags : tag_meaning after.tags ≡ tag_meaning before.tags

-- both banks hold the `&mut`s that they held before; `held` and `tag_held` are what a bank of either sort holds
pub record HoldTheSame {C T : Type 0} (held : C → List ℕ) (tag_held : T → List ℕ) (before after : Banks C T) : Type 0 where
  pub ciphers : held after.ciphers ≡ held before.ciphers
  pub tags : tag_held after.tags ≡ tag_held before.tags
