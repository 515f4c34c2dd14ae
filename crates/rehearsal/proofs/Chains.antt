-- Runs: one turn longer, what each turn keeps, and each line of one.
use Rattle.std.proofs.Common.{◌≡◌, ℕ, zero, suc, ◌+◌, ◌<◌, List, [], ◌∷◌, ◌++◌, length, get_or, take, Some, sym, refl, ap, ◌∙◌, subst, append_assoc, append-nil, arith}
use Rattle.std.specs.List.{slice_get}
use Rattle.std.proofs.lemmas.List.{take_more, length-take-le}
use Rattle.banks.specs.Ciphers.{Ciphers}
use Rattle.banks.specs.Tags.{Tags}
use Rattle.register.proofs.Lookups.{none_some, some_one}
use Rattle.rehearsal.specs.declared.log.Answer.{Answer}
use Rattle.rehearsal.specs.declared.log.Line.{Line}
use Rattle.rehearsal.specs.Runs.{Turn, turns, Both, Turns, Runs}

pub pushes : {X : Type 0} (xs : List X) (x : X) → length (xs ++ x ∷ []) ≡ length xs + 1
pushes [] x = refl
pushes (y ∷ xs) x = omega (arith, pushes xs x)

turns_push : (ls : List Line) (xs : List Answer) (l : Line) (x : Answer) → length xs ≡ length ls → turns (ls ++ l ∷ []) (xs ++ x ∷ []) ≡ turns ls xs ++ (record { line = l; answer = x } ∷ [])
turns_push [] [] l x e = refl
turns_push [] (y ∷ ys) l x e = absurd (omega arith)
turns_push (k ∷ ls) [] l x e = absurd (omega arith)
turns_push (k ∷ ls) (y ∷ ys) l x e = ap (λ (us : List Turn). record { line = k; answer = y } ∷ us) (turns_push ls ys l x (omega arith))

longer : (log : List Line) (xs ys : List Answer) (i : ℕ) (d : Line) (x : Answer) → i < length log → length xs ≡ i → ys ≡ xs ++ x ∷ [] → turns (take (i + 1) log) ys ≡ turns (take i log) xs ++ (record { line = get_or log i d; answer = x } ∷ [])
longer log xs ys i d x lt len pushed =
    ap (λ (ls : List Line). turns ls ys) (take_more log i d lt) ∙ ap (turns (take i log ++ get_or log i d ∷ [])) pushed
    ∙ turns_push (take i log) xs (get_or log i d) x (len ∙ sym (length-take-le i log (omega arith)))

runs_push : (m : Ciphers) (t : Tags) (ts : List Turn) (turn : Turn) (p q r : Both) → Runs m t ts p q → Turns m t turn q r → Runs m t (ts ++ turn ∷ []) p r
runs_push m t [] turn p q r same step = (r, subst (λ (x : Both). Turns m t turn x r) same step, refl)
runs_push m t (u ∷ ts) turn p q r run step = (run.0, run.1, runs_push m t ts turn run.0 q r run.2 step)

-- one turn of the loop
pub one_more : (m m' : Ciphers) (t t' : Tags) (log : List Line) (xs ys : List Answer) (i : ℕ) (d : Line) (x : Answer) (p q r : Both)
    → m' ≡ m → t' ≡ t → i < length log → length xs ≡ i → ys ≡ xs ++ x ∷ []
    → Runs m t (turns (take i log) xs) p q → Turns m' t' (record { line = get_or log i d; answer = x }) q r
    → Runs m t (turns (take (i + 1) log) ys) p r
one_more m m' t t' log xs ys i d x p q r m-is t-is lt len pushed run step =
    let turn : Turn = record { line = get_or log i d; answer = x } in
    subst (λ (ts : List Turn). Runs m t ts p r) (sym (longer log xs ys i d x lt len pushed))
    (runs_push m t (turns (take i log) xs) turn p q r run
    (subst (λ (c : Ciphers). Turns c t turn q r) m-is (subst (λ (g : Tags). Turns m' g turn q r) t-is step)))

module _ (m : Ciphers) (t : Tags) where
  -- what each turn keeps holds after a run
  pub run_keeps : (Inv : List Turn → Both → Type 0) → ((ts : List Turn) (turn : Turn) (p q : Both) → Inv ts p → Turns m t turn p q → Inv (ts ++ turn ∷ []) q)
      → (past ts : List Turn) (p q : Both) → Inv past p → Runs m t ts p q → Inv (past ++ ts) q
  run_keeps Inv push past [] p q h r = subst (λ (us : List Turn). Inv us q) (sym (append-nil past)) (subst (Inv past) (sym r) h)
  run_keeps Inv push past (turn ∷ ts) p q h r =
      subst (λ (us : List Turn). Inv us q) (append_assoc past (turn ∷ []) ts)
      (run_keeps Inv push (past ++ turn ∷ []) ts r.0 q (push past turn p r.0 h r.1) r.2)

  -- a line of a run: what the lines above it have left, and what it makes of that
  pub record Reached (p : Both) (ts : List Turn) (n : ℕ) (turn : Turn) : Type 0 where
    pub before : Both
    pub after : Both
    pub above : Runs m t (take n ts) p before
    pub here : Turns m t turn before after

  pub run_reaches : (ts : List Turn) (n : ℕ) (turn : Turn) (p q : Both) → slice_get ts n ≡ Some turn → Runs m t ts p q → Reached p ts n turn
  run_reaches [] n turn p q e r = absurd (none_some e)
  run_reaches (u ∷ ts) zero turn p q e r = record { before = p; after = r.0; above = refl; here = subst (λ (x : Turn). Turns m t x p r.0) (some_one e) r.1 }
  run_reaches (u ∷ ts) (suc n) turn p q e r =
      let far = run_reaches ts n turn r.0 q e r.2 in
      record { before = far.before; after = far.after; above = (r.0, r.1, far.above); here = far.here }
