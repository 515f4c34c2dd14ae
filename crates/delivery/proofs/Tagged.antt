-- What comparing a tag of MIA-1 with the end of a message tells.
use Rattle.std.proofs.Common.{◌≡◌, ℕ, ◌-◌, ◌^◌, ◌<◌, ◌≤◌, true, false, eqb, List, length, take, drop, sym, ap, ◌∙◌, subst, ⊎_elim, arith}
use Rattle.std.proofs.ByRecursion.{All-take, All-drop}
use Rattle.std.proofs.lemmas.List.{length-take-le, length-drop}
use Rattle.std.proofs.lemmas.Bool.{eqb-true, eqb-false, cases_Bool}
use Rattle.octets.specs.Numbers.{Octets, octets_of, number}
use Rattle.octets.proofs.Widths.{number_fits, stand_for_each_other}
use Rattle.banks.specs.Delivered.{delivered_tags}
use Rattle.banks.specs.Mia1.{mia1}
use Rattle.banks.specs.Tags.{tag_of}
use Rattle.banks.specs.Chaining.{mia1_small}
use Rattle.rules.specs.Layout.{part, tag_in}
use Rattle.rules.proofs.Layouts.{covered_before_tag, tag_octets}
use Rattle.station.specs.Receive.{covered_in}
use Rattle.station.specs.Seal.{tag_under}
use Rattle.station.specs.declared.records.SecurityAssociation.{SecurityAssociation}
use Rattle.delivery.specs.Receiving.{EndsWithMac}

-- THE END OF A MESSAGE

module _ (m : List ℕ) (o : Octets m) (long : 24 ≤ length m) where
  end_is : octets_of 4 (tag_in m) ≡ drop (length m - 4) m
  end_is = tag_octets m o (omega (arith, long))

  tag_fits : tag_in m < 2 ^ 32
  tag_fits =
      let end : List ℕ = part (length m - 4) 4 m in
      let four : length end ≡ 4 = length-take-le 4 (drop (length m - 4) m) (simp length-drop (omega arith)) in
      subst (λ n. number end < 256 ^ n) four (number_fits end (All-take (λ x. x < 256) 4 (drop (length m - 4) m) (All-drop (λ x. x < 256) (length m - 4) m o)))

  module _ (a : SecurityAssociation) (mia : a.mia ≡ 1) where
    abbrev of_message : ℕ
    of_message = mia1 a.integrity_key (take (length m - 4) m)

    tag_is : tag_under delivered_tags a (covered_in m) ≡ of_message
    tag_is = ap (λ n. tag_of (delivered_tags n) a.integrity_key (covered_in m)) mia ∙ ap (mia1 a.integrity_key) (covered_before_tag m long)

    -- the numbers are the same: the octets are
    pub right : eqb (tag_under delivered_tags a (covered_in m)) (tag_in m) ≡ true → EndsWithMac a m
    right e = sym end_is ∙ ap (octets_of 4) (sym (sym tag_is ∙ eqb-true _ _ e))

    -- they are not: nor are the octets
    pub wrong : eqb (tag_under delivered_tags a (covered_in m)) (tag_in m) ≡ false → EndsWithMac a m → ⊥
    wrong e r =
        let same : octets_of 4 of_message ≡ octets_of 4 (tag_in m) = sym r ∙ sym end_is in
        eqb-false _ _ e (tag_is ∙ sym (stand_for_each_other.back 4 of_message (mia1_small a.integrity_key (take (length m - 4) m))) ∙ ap number same ∙ stand_for_each_other.back 4 (tag_in m) tag_fits)

    pub unlike : (EndsWithMac a m → ⊥) → eqb (tag_under delivered_tags a (covered_in m)) (tag_in m) ≡ false
    unlike never = ⊎_elim (λ e. absurd (never (right e))) (λ e. e) (cases_Bool (eqb (tag_under delivered_tags a (covered_in m)) (tag_in m)))
