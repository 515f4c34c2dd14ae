use Rattle.std.proofs.Common.{◌+◌, map, sym, ap, subst, ◌∙◌, rules}
use Rattle.std.proofs.lemmas.List.{map-set, nil_from_length}
use Rattle.words.specs.Words.{after, word, word_at}
use Rattle.words.proofs.Cuts.{from_more}
use Rattle.words.proofs.Indexed.{FirstCut, cut_more, all_cut, all_ended}
use Rattle.words.proofs.line.Line.of.Goals as goal
use Rattle.words.proofs.line.Line.of.Goals.{else-loop-i-test, then-loop-i-test+then-is_empty}

pub loop-i-preserved : goal.loop-i-preserved
unfolding word_at
loop-i-preserved c =
    let l = c.loop-i in (
      c.first_word.ensures.rest ∙ ap after l.invariant.0 ∙ sym (from_more l.i c.args.octets.now),
      subst (λ texts. FirstCut texts (l.i + 1) c.args.octets.now) (sym (map-set (λ w. w.now) l.words l.i c.first_word.result.0))
          (cut_more (map (λ w. w.now) l.words) l.i c.args.octets.now c.first_word.result.0.now l.invariant.1 (search rules)
          (c.first_word.ensures.word ∙ ap word l.invariant.0)),
    )

pub invariant_of-result : goal.invariant_of-result
invariant_of-result c =
    let l = c.loop-i in
    let texts = map (λ w. w.now) l.words in
    record {
      cut = elim c.loop-i-test.branch [
        | else-loop-i-test w ↦ all_cut texts l.i c.args.octets.now l.invariant.1 (search rules)
        | then-loop-i-test+then-is_empty w ↦ all_ended texts l.i c.args.octets.now l.invariant.1 (sym l.invariant.0 ∙ nil_from_length c.loop-i.left.now (search rules))
      ];
    }
