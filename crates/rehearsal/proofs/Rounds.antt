-- No message is handed on again before its stamp has come round.
use Rattle.std.proofs.Common.{◌≡◌, ℕ, ◌+◌, ◌-◌, ◌<◌, ◌≤◌, true, ltb, leb, ◌⊎◌, List, [], take, Some, None, sym, ap, ◌∙◌, subst, inl, inr, ⊎_elim, arith}
use Rattle.std.proofs.lemmas.Bool.{cases_Bool, cond-true, cond-false, both_ways, or_cases, leb-true, ltb-true}
use Rattle.banks.specs.Ciphers.{Ciphers}
use Rattle.banks.specs.Tags.{Tags}
use Rattle.register.specs.Places.{not_past}
use Rattle.register.proofs.Lookups.{none_some}
use Rattle.rules.specs.Window.{age, lead, in_window, last_tick}
use Rattle.rules.specs.declared.settings.Settings.{Settings}
use Rattle.station.specs.States.{Heard, heard_under, fresh_under}
use Rattle.station.specs.declared.records.HeardKey.{HeardKey}
use Rattle.station.specs.declared.records.HeardMessage.{HeardMessage}
use Rattle.rehearsal.specs.declared.log.Side.{Side}
use Rattle.rehearsal.specs.Laws.{HandedAt, NotAgainBeforeTheStampComesRound}
use Rattle.rehearsal.specs.Runs.{Turn, Both, Runs}
use Rattle.rehearsal.proofs.Keeps.{Kept, at, stepped}
use Rattle.rehearsal.proofs.Lines.{at_taken}
use Rattle.rehearsal.proofs.Moves.{HeardAs, step_moves}

-- the last tick of a stamp that is in the window, by its age or by its lead
abbrev Last : ℕ → ℕ → ℕ → ℕ → ℕ → Type 0
Last back ahead reading stamp last = ((age reading stamp ≤ back) × (last + age reading stamp ≡ reading + back)) ⊎ ((lead reading stamp ≤ ahead) × (last ≡ reading + lead reading stamp + back))

is_last : (back ahead reading stamp : ℕ) → in_window back ahead reading stamp ≡ true → Last back ahead reading stamp (last_tick back reading stamp)
is_last back ahead reading stamp w =
    let old = leb (age reading stamp) back in
    ⊎_elim
    (λ t. let l = leb-true (age reading stamp) back t in let is = cond-true old (reading + back - age reading stamp) (reading + lead reading stamp + back) t in inl (l, omega arith))
    (λ f. ⊎_elim
    (λ t. absurd (both_ways old f t))
    (λ t. inr (leb-true (lead reading stamp) ahead t, cond-false old (reading + back - age reading stamp) (reading + lead reading stamp + back) f))
    (or_cases old (leb (lead reading stamp) ahead) w))
    (cases_Bool old)

-- two readings at which one stamp is in the window, the second past the last tick of the first
far_apart : (back ahead stamp first second last after : ℕ) → stamp < 4294967296 → Last back ahead first stamp last → Last back ahead second stamp after → last < second → first + 4294967296 ≤ second + back + ahead
far_apart back ahead stamp first second last after fits (inl x) (inl y) l = omega arith
far_apart back ahead stamp first second last after fits (inl x) (inr y) l = omega arith
far_apart back ahead stamp first second last after fits (inr x) (inl y) l = omega arith
far_apart back ahead stamp first second last after fits (inr x) (inr y) l = omega arith

-- what is remembered and not heard is past
past : (reading : ℕ) (key : HeardKey) (heard : Heard) (h : HeardMessage) → heard_under key heard ≡ Some h → fresh_under reading key heard ≡ None → h.last < reading
past reading key heard h held unheard =
    let gone : not_past (λ (x : HeardMessage). x.last) reading (Some h) ≡ None = ap (not_past (λ (x : HeardMessage). x.last) reading) (sym held) ∙ unheard in
    ⊎_elim
    (λ t. ltb-true _ _ t)
    (λ f. absurd (none_some (sym gone ∙ cond-false (ltb h.last reading) None (Some h) f)))
    (cases_Bool (ltb h.last reading))

module _ (m : Ciphers) (t : Tags) (settings : Side → Settings) (ts : List Turn) (p q : Both) (new : (side : Side) → Kept side (settings side) [] (at side p)) (run : Runs m t ts p q) where
  pub not_again : NotAgainBeforeTheStampComesRound settings ts
  not_again side i j first second key lt one two =
      let turn = two.0 in
      let s = settings side in
      let line = stepped m t settings ts p q new run j turn two.1 in
      let before = line.before in
      let after = line.after in
      let kept : Kept side s (take j ts) before = subst (λ (x : Side). Kept x (settings x) (take j ts) before) two.2.0 line.kept in
      let known = kept.known i first key (at_taken ts (HandedAt side first key) j i lt one) in
      ⊎_elim
      (λ quiet. absurd (quiet.1 second key two.2.1 two.2.2))
      (λ heard.
      let same = heard.only second key two.2.1 in
      let h : HeardAs s second key before after =
      subst (λ (x : Settings). HeardAs x second key before after) kept.settings
      (subst (λ (r : ℕ). HeardAs before.station.settings r key before after) same.0
      (subst (λ (k : HeardKey). HeardAs before.station.settings heard.reading k before after) same.1 heard.heard)) in
      let over : last_tick s.back first key.tvp < second =
      ⊎_elim (λ l. omega (arith, l, h.order)) (λ e. past second key before.contents.heard _ e h.unheard) known.past_or_held in
      far_apart s.back s.ahead key.tvp first second _ _ known.stamp (is_last s.back s.ahead first key.tvp known.window) (is_last s.back s.ahead second key.tvp h.window) over)
      (step_moves m t turn.line.call turn.answer before after line.step).heard
