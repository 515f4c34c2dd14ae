-- Counting the places that pass a test.
use Rattle.std.proofs.Common.{◌≡◌, ℕ, suc, ◌+◌, ◌<◌, Bool, false, cond, List, [], ◌∷◌, map, length, get_or, take, drop, count_by, refl, ap, ◌∙◌, arith}
use Rattle.std.proofs.lemmas.List.{length-take-le, length-drop}
use Rattle.std.proofs.lemmas.Bool.{cond-false}
use Rattle.std.proofs.lemmas.List.Sums.{sum_by-cons, sum_by-take-drop, count_by_more_no, count_by-le-length}

module _ {X : Type 0} (test : X → Bool) where
  -- A place that fails the test is not counted.
  pub count_missing : (xs : List X) (i : ℕ) (d : X) → i < length xs → test (get_or xs i d) ≡ false → count_by test xs < length xs
  count_missing xs i d l f =
      omega (
        arith,
        sum_by-take-drop (λ x. cond (test x) 1 0) xs (i + 1),
        count_by_more_no test xs i d l f,
        count_by-le-length test (take i xs),
        length-take-le i xs (omega arith),
        count_by-le-length test (drop (i + 1) xs),
        length-drop (i + 1) xs,
      )

  pub count_map : {Y : Type 0} (f : Y → X) (ys : List Y) → count_by test (map f ys) ≡ count_by (λ y. test (f y)) ys
  count_map f [] = refl
  count_map f (y ∷ ys) =
      omega (
        arith,
        sum_by-cons (λ x. cond (test x) 1 0) (f y) (map f ys),
        sum_by-cons (λ z. cond (test (f z)) 1 0) y ys,
        count_map f ys,
      )

  pub count_none : (xs : List X) (d : X) → test d ≡ false → ((i : ℕ) → get_or xs i d ≡ d) → count_by test xs ≡ 0
  count_none [] d f all = refl
  count_none (x ∷ xs) d f all =
      let none : cond {A = ℕ} (test x) 1 0 ≡ 0 = cond-false (test x) 1 0 (ap test (all 0) ∙ f) in
      omega (arith, sum_by-cons (λ y. cond (test y) 1 0) x xs, count_none xs d f (λ i. all (suc i)))
