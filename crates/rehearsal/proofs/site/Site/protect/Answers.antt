use Rattle.std.proofs.Common.{◌≡◌, ℕ, ◌<◌, List, length, replicate, refl, ◌∙◌, subst, arith, rules}
use Rattle.std.proofs.ByRecursion.{All-from_get_or}
use Rattle.station.specs.Protect.{Protected}
use Rattle.station.specs.States.{contents_of}
use Rattle.rehearsal.specs.Steps.{ShowsSending}
use Rattle.rehearsal.proofs.Outputs.{lent_back}
use Rattle.rehearsal.proofs.site.Site.protect.Goals as goal

pub returns : goal.returns
returns g c =
    let blank : c.as_mut_slice.result.now ≡ replicate c.args.room 0 = c.as_mut_slice.ensures.value ∙ search rules in
    let long : length c.protect-outcome.new.output ≡ c.in_ok-output.output.len = omega (arith, c.as_mut_slice.ensures.len, c.protect-outcome.auto.output) in
    record {
      banks = c.protect-outcome.ensures.banks;
      registers = refl;
      step = record {
        octets = All-from_get_or (λ x. x < 256) c.args.cleartext.now 0 (λ i _. omega (arith, c.type_inv.cleartext i));
        apart = c.args.self.now.registers.associations.apart;
        result = c.protect-outcome.result;
        output = c.protect-outcome.new.output;
        shown = subst (λ (o : List ℕ). ShowsSending c.protect-outcome.result o c.sending_answer.result) (lent_back c.protect-outcome.new.output _ _ long) c.sending_answer.ensures;
        made = subst (λ (o : List ℕ). Protected (record { station = c.args.self.now.station; contents = contents_of c.args.self.now.registers; ciphers = g.C.CipherBank.means c.args.banks.now.ciphers; tags = g.T.TagBank.means c.args.banks.now.tags; reading = c.args.reading; network = c.args.network; component = c.args.component; cleartext = c.args.cleartext.now; output = o }) c.protect-outcome.new.self c.protect-outcome.new.output c.protect-outcome.result) blank c.protect-outcome.ensures.protected;
      };
    }
