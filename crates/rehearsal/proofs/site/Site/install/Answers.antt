use Rattle.std.proofs.Common.{arith}
use Rattle.rehearsal.proofs.site.Site.install.Goals as goal

-- the fields of the association, the fourth argument, fit their types
pub returns : goal.returns
returns g c = record { spi_fits = omega (arith, c.well_formed.1.1.1.0); result = c.install.result; shown = c.kept.ensures; made = c.install.ensures }
