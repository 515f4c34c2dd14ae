use Rattle.std.proofs.Common.{◌≡◌, sym, ap, ◌∙◌}
use Rattle.std.proofs.lemmas.List.Edits.{map_over_more}
use Rattle.register.specs.Places.{not_past}
use Rattle.register.proofs.places.drop_past.Goals as goal

pub loop-place-preserved : goal.loop-place-preserved
loop-place-preserved g c =
    let f = not_past g.R.Ending.last c.args.tick in
    let one : c.not_past.result ≡ f c.place-item.result = c.not_past.ensures ∙ ap f (sym c.place-item.is) in
    rw one (map_over_more f c.args.places.now c.loop-place.places c.loop-place.place-index c.place-item.result c.loop-place-test.true c.loop-place.invariant c.place-item.is)
