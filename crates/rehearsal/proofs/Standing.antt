-- The association at a line is one, and what stands above a line stands there in the whole log.
use Rattle.std.proofs.Common.{◌≡◌, ℕ, ◌<◌, List, length, take, Some, sym, ◌∙◌, subst, ⊎_elim, arith}
use Rattle.std.specs.List.{slice_get}
use Rattle.std.proofs.lemmas.Bool.{cases_order}
use Rattle.station.specs.declared.records.AssociationKey.{AssociationKey}
use Rattle.station.specs.declared.records.SecurityAssociation.{SecurityAssociation}
use Rattle.rehearsal.specs.declared.log.Call.{Call}
use Rattle.rehearsal.specs.declared.log.Call.TheVariants.{Admit, Install, Revoke, Protect, Receive, Plain}
use Rattle.rehearsal.specs.declared.log.Side.{Side}
use Rattle.rehearsal.specs.Associations.{At, Installs, Changes, Accepted, AssociationAt}
use Rattle.rehearsal.specs.Runs.{Turn}
use Rattle.rehearsal.proofs.Lines.{take_above, at_one, at_taken, at_whole}

-- a call installs one association, and changes its key
installs_one : (k : AssociationKey) (x y : SecurityAssociation) (c : Call) → Installs k x c → Installs k y c → x ≡ y
installs_one k x y (Admit network stance) h i = absurd h
installs_one k x y (Install reading b) h i = sym h.1 ∙ i.1
installs_one k x y (Revoke destination spi) h i = absurd h
installs_one k x y (Protect reading network component cleartext room) h i = absurd h
installs_one k x y (Receive reading network waiting message room) h i = absurd h
installs_one k x y (Plain reading component waiting cleartext) h i = absurd h

installs_changes : (k : AssociationKey) (x : SecurityAssociation) (c : Call) → Installs k x c → Changes k c
installs_changes k x (Admit network stance) h = h
installs_changes k x (Install reading b) h = h.0
installs_changes k x (Revoke destination spi) h = absurd h
installs_changes k x (Protect reading network component cleartext room) h = h
installs_changes k x (Receive reading network waiting message room) h = h
installs_changes k x (Plain reading component waiting cleartext) h = h

module _ (ts : List Turn) (n : ℕ) (side : Side) (k : AssociationKey) where
  as_change : (x : SecurityAssociation) (line : ℕ) → At ts line (Accepted side (Installs k x)) → At ts line (Accepted side (Changes k))
  as_change x line h = (h.0, h.1, (h.2.0, installs_changes k x h.0.line.call h.2.1, h.2.2))

  pub one_association : (x y : SecurityAssociation) → AssociationAt ts n side k x → AssociationAt ts n side k y → x ≡ y
  one_association x y a b =
      ⊎_elim
      (λ same.
      let t = a.installed.0 in
      let there : At ts a.line (Accepted side (Installs k y)) = subst (λ l. At ts l (Accepted side (Installs k y))) (sym same) b.installed in
      installs_one k x y t.line.call a.installed.2.1 (at_one ts (Accepted side (Installs k y)) a.line t a.installed.1 there).1)
      (λ other. ⊎_elim
      (λ l. absurd (a.unchanged b.line l b.above (as_change y b.line b.installed)))
      (λ l. absurd (b.unchanged a.line l a.above (as_change x a.line a.installed)))
      other)
      (cases_order a.line b.line)

  pub stands_in_whole : (x : SecurityAssociation) (t : Turn) → slice_get ts n ≡ Some t → AssociationAt (take n ts) (length (take n ts)) side k x → AssociationAt ts n side k x
  stands_in_whole x t e a =
      let long = take_above n ts t e in
      let below : a.line < n = omega (arith, a.above, long) in
      record {
        line = a.line;
        above = below;
        installed = at_whole ts (Accepted side (Installs k x)) n a.line below a.installed;
        unchanged = λ j l m h. a.unchanged j l (omega (arith, long, m)) (at_taken ts (Accepted side (Changes k)) n j m h);
      }
