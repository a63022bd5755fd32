-- The proof of each claim.
use Rattle.stream.specs.Claims.{Claims}
use Rattle.stream.proofs.Theorems.{chunks-do-not-matter, turns-give-output}
use Rattle.stream.proofs.cases.Scripts.{worked-script, steps-script, worked-script-tells, worked-script-opens}
use Rattle.stream.proofs.Agreement.{program-agrees}
use Rattle.stream.proofs.WayOn.{program-goes-on}

pub claimed : Claims
claimed =
    record {
      chunks_do_not_matter = chunks-do-not-matter;
      turns_give_output = turns-give-output;
      worked_script = worked-script;
      steps_script = steps-script;
      program_agrees = program-agrees;
      worked_script_tells = worked-script-tells;
      worked_script_opens = worked-script-opens;
      program_goes_on = program-goes-on;
    }
