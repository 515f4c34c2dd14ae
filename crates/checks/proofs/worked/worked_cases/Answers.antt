use Rattle.std.proofs.Common.{refl}
use Rattle.octets.specs.Numbers.{octets_of, number}
use Rattle.rules.specs.Layout.{open_header, iv_part}
use Rattle.checks.proofs.worked.worked_cases.Goals as goal

-- all by computation
pub returns : goal.returns
unfolding octets_of number open_header iv_part
returns c =
    record {
      invoke_56 = refl;
      result_56 = refl;
      error_56 = refl;
      result_37 = refl;
      oldest = refl;
      newest = refl;
      too_old = refl;
      too_new = refl;
      oldest_rolled = refl;
      newest_rolled = refl;
      too_old_rolled = refl;
      too_new_rolled = refl;
      shortest = refl;
      longest = refl;
      longest_taken = refl;
      too_long = refl;
      blocks_31 = refl;
      blocks_32 = refl;
      at_599 = refl;
      at_600 = refl;
      at_700 = refl;
      at_800 = refl;
      at_900 = refl;
      hard_latest = refl;
      hard_too_late = refl;
      hard_now = refl;
      iv = refl;
      test_message = refl;
    }
