-- The proof of each claim.
use Rattle.script.specs.Claims.{Claims}
use Rattle.script.proofs.Theorems.{refused-leaves-session, before-opening, answers-printable}
use Rattle.script.proofs.Agreement.{scripts-agree, script-is-execution}
use Rattle.script.proofs.WayOn.{lines-make-calls, lines-go-on}

pub claimed : Claims
claimed =
    record {
      refused_leaves_session = refused-leaves-session;
      before_opening = before-opening;
      answers_printable = answers-printable;
      scripts_agree = scripts-agree;
      script_is_execution = script-is-execution;
      lines_make_calls = lines-make-calls;
      lines_go_on = lines-go-on;
    }
