use Rattle.std.proofs.Common.{◌≡◌, ℕ, ◌<◌, List, length, replicate, ap, ◌∙◌, subst, arith, rules}
use Rattle.std.proofs.ByRecursion.{All-from_get_or}
use Rattle.station.specs.Receive.{Received}
use Rattle.station.specs.Slips.{refusal_number, reported}
use Rattle.station.specs.States.{contents_of}
use Rattle.rehearsal.specs.Steps.{ShowsHanded}
use Rattle.rehearsal.proofs.Outputs.{lent_back}
use Rattle.rehearsal.proofs.site.Site.receive.Goals as goal

pub returns : goal.returns
returns g c =
    let blank : c.as_mut_slice.result.now ≡ replicate c.args.room 0 = c.as_mut_slice.ensures.value ∙ search rules in
    let long : length c.receive-outcome.new.output ≡ c.in_ok-output.output.len = omega (arith, c.as_mut_slice.ensures.len, c.receive-outcome.auto.output) in
    let outcome = c.receive-outcome.result.outcome in
    let report : c.close.result ≡ reported (refusal_number outcome) c.args.waiting = c.close.ensures ∙ ap (λ s. reported s.number s.waiting) c.receive-outcome.ensures.slip in
    record {
      banks = c.receive-outcome.ensures.banks;
      step = record {
        octets = All-from_get_or (λ x. x < 256) c.args.message.now 0 (λ i _. omega (arith, c.type_inv.message i));
        result = outcome;
        output = c.receive-outcome.new.output;
        shown = subst (λ (n : ℕ). ShowsHanded outcome c.receive-outcome.new.output n c.handed_answer.result) report
            (subst (λ (o : List ℕ). ShowsHanded outcome o c.close.result c.handed_answer.result) (lent_back c.receive-outcome.new.output _ _ long) c.handed_answer.ensures);
        made = subst (λ (o : List ℕ). Received (record { station = c.args.self.now.station; contents = contents_of c.args.self.now.registers; ciphers = g.C.CipherBank.means c.args.banks.now.ciphers; tags = g.T.TagBank.means c.args.banks.now.tags; reading = c.args.reading; network = c.args.network; message = c.args.message.now; output = o }) c.receive-outcome.new.self (contents_of c.receive-outcome.new.registers) c.receive-outcome.new.output outcome) blank c.receive-outcome.ensures.received;
      };
    }
