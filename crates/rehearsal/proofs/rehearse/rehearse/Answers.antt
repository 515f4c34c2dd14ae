use Rattle.std.proofs.Common.{vec_items}
use Rattle.rehearsal.specs.Runs.{turns, sites_of}
use Rattle.rehearsal.proofs.Rehearsals.{made_from, in_places, from_new, rehearsals}
use Rattle.rehearsal.proofs.rehearse.rehearse.Goals as goal

pub returns : goal.returns
returns g c =
    let m = g.C.CipherBank.means c.args.banks.now.ciphers in
    let t = g.T.TagBank.means c.args.banks.now.tags in
    let a = c.args.a in
    let b = c.args.b in
    let ma = c.in_ok-memory_a.ensures in
    let mb = c.in_ok-memory_b.ensures in
    let ra = c.registers.result in
    let rb = c.registers-2.result in
    let empty-a = in_places a.places _ _ _ ra ma.0 ma.1 ma.2 c.registers.ensures in
    let empty-b = in_places b.places _ _ _ rb mb.0 mb.1 mb.2 c.registers-2.ensures in
    record {
      rehearsed = made_from c.run.result
          (λ v one run.
          rehearsals m t (g.met.C.CipherBank.lawful c.args.banks.now.ciphers) (g.met.T.TagBank.lawful c.args.banks.now.tags) a.settings b.settings a.places b.places ra rb empty-a empty-b
          (sites_of c.run.new.self) c.args.log.now (vec_items v) one
          (from_new m t (turns c.args.log.now (vec_items v)) a.settings b.settings c.new-3.result c.new-4.result ra rb _ c.new-3.ensures c.new-4.ensures run))
          c.run.ensures.answers c.run.ensures.runs;
    }
