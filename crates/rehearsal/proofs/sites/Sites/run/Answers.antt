use Rattle.std.proofs.Common.{ℕ, ◌+◌, List, length, vec_items, ap, ◌∙◌, subst, arith}
use Rattle.std.proofs.lemmas.List.{take_all}
use Rattle.rehearsal.specs.declared.log.Line.{Line}
use Rattle.rehearsal.specs.Runs.{sites_of, turns, Runs}
use Rattle.rehearsal.proofs.Chains.{one_more, pushes}
use Rattle.rehearsal.proofs.sites.Sites.run.Goals as goal

pub loop-line-preserved : goal.loop-line-preserved
loop-line-preserved g c =
    let pushed = c.in_ok-push.ensures in
    let stepped = c.in_ok-answer.ensures in
    let inv = c.loop-line.invariant in (
      ap length pushed.items ∙ pushes (vec_items c.loop-line.answers) c.in_ok-answer.answer ∙ ap (λ (n : ℕ). n + 1) inv.0,
      record { ciphers = stepped.banks.ciphers ∙ inv.1.ciphers; tags = stepped.banks.tags ∙ inv.1.tags },
      one_more _ _ _ _ c.args.log.now (vec_items c.loop-line.answers) (vec_items c.push.new.self) c.loop-line.line-index _ c.in_ok-answer.answer _ _ _
          inv.1.ciphers inv.1.tags c.loop-line-test.true inv.0 pushed.items inv.2 stepped.turns,
    )

pub returns : goal.returns
returns g c =
    let inv = c.loop-line.invariant in
    let whole = take_all c.loop-line.line-index c.args.log.now c.loop-line-test.false in
    record {
      answers = omega (arith, inv.0, c.loop-line.auto.line-index-end, c.loop-line-test.false);
      runs = subst (λ (ls : List Line). Runs (g.C.CipherBank.means c.args.banks.now.ciphers) (g.T.TagBank.means c.args.banks.now.tags) (turns ls (vec_items c.loop-line.answers)) (sites_of c.args.self.now) (sites_of c.loop-line.self)) whole inv.2;
    }
