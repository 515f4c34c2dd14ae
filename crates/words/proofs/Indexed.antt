-- Cutting the first words of a line once. Assumes nothing.
use Rattle.std.proofs.Common.{◌≡◌, ℕ, zero, suc, ◌+◌, ◌<◌, ◌≤◌, List, [], length, get_or, set, sym, ap, ◌∙◌, subst, ⊎_elim, arith}
use Rattle.std.proofs.lemmas.List.{get_or-set_same, get_or-set_other, length-set}
use Rattle.std.proofs.lemmas.Bool.Decides.{eqb_tells, leb_tells}
use Rattle.words.specs.Words.{unblanked, uncommented, past, run, word, after, from, word_at}

-- where a line has ended, it has ended after any number of words more
ended : (n i : ℕ) (line : List ℕ) → i ≤ n → from i line ≡ [] → from n line ≡ []
unfolding after
ended zero i line h none = let is : i ≡ 0 = omega (arith, h) in subst (λ k. from k line ≡ []) is none
ended (suc n) i line h none = ⊎_elim
    (λ before. ap (λ l. past (uncommented (unblanked l))) (ended n i line before.1 none))
    (λ there. let is : i ≡ suc n = omega (arith, h, there.1) in subst (λ k. from k line ≡ []) is none)
    (leb_tells i n)

-- so every word from there on is empty
none_later : (i n : ℕ) (line : List ℕ) → i ≤ n → from i line ≡ [] → word_at n line ≡ []
unfolding word word_at
none_later i n line h none = ap (λ l. run (uncommented (unblanked l))) (ended n i line h none)

-- the words before a place are cut, those from it on are empty yet
pub record FirstCut (texts : List (List ℕ)) (i : ℕ) (line : List ℕ) : Type 0 where
  pub count : length texts ≡ 17
  pub cut : (k : ℕ) → k < i → get_or texts k [] ≡ word_at k line
  pub later : (k : ℕ) → i ≤ k → get_or texts k [] ≡ []

-- a word more
pub cut_more : (texts : List (List ℕ)) (i : ℕ) (line w : List ℕ) → FirstCut texts i line → i < 17 → w ≡ word_at i line → FirstCut (set texts i w) (i + 1) line
cut_more texts i line w before small is = record {
  count = length-set texts i w ∙ before.count;
  cut = λ k h. ⊎_elim
      (λ same. subst (λ j. get_or (set texts i w) j [] ≡ word_at j line) (sym same.1) (get_or-set_same texts i w [] (omega (arith, small, before.count)) ∙ is))
      (λ other. get_or-set_other texts i k w [] other.1 ∙ before.cut k (omega (arith, h, other.1)))
      (eqb_tells k i);
  later = λ k h. get_or-set_other texts i k w [] (λ e. omega (arith, h, e)) ∙ before.later k (omega (arith, h));
}

-- all seventeen words are cut once there are no more places, or nothing is left
pub all_cut : (texts : List (List ℕ)) (i : ℕ) (line : List ℕ) → FirstCut texts i line → 17 ≤ i → (n : ℕ) → n < 17 → get_or texts n [] ≡ word_at n line
all_cut texts i line before full n h = before.cut n (omega (arith, h, full))

pub all_ended : (texts : List (List ℕ)) (i : ℕ) (line : List ℕ) → FirstCut texts i line → from i line ≡ [] → (n : ℕ) → n < 17 → get_or texts n [] ≡ word_at n line
all_ended texts i line before none n h = ⊎_elim
    (λ at. before.cut n (omega (arith, at.1)))
    (λ past_i. before.later n (omega (arith, past_i.1)) ∙ sym (none_later i n line (omega (arith, past_i.1)) none))
    (leb_tells (n + 1) i)
