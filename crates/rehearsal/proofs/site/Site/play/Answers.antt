use Rattle.std.proofs.Common.{sym, refl, subst}
use Rattle.rehearsal.specs.declared.log.Call.{Call}
use Rattle.rehearsal.specs.Steps.{post_of, Steps}
use Rattle.rehearsal.proofs.site.Site.play.Goals as goal

pub returns-in-Install : goal.returns-in-Install
returns-in-Install g c =
    record {
      banks = record { ciphers = refl; tags = refl };
      step = subst (λ (k : Call). Steps (g.C.CipherBank.means c.args.banks.now.ciphers) (g.T.TagBank.means c.args.banks.now.tags) k c.install.result (post_of c.args.self.now) (post_of c.install.new.self)) (sym c.in-Install.is) c.install.ensures;
    }
