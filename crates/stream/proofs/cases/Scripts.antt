-- The worked scripts, by computation.
use Prim.Native.Nat.{ℕ}
use mathlib.Core.Path.{refl}
use mathlib.Core.List.{List, Memᴰ}
use Rattle.protocol.specs.History.{decided}
use Rattle.protocol.proofs.Witnesses.{none-reopens}
use Rattle.protocol.specs.Memory.{update, append_certificate, append_block}
use Rattle.protocol.specs.Form.{all_hold, all_below, block_formed, replica_formed, certificate_formed, lengths_fit, counts_fit}
use Rattle.protocol.specs.Form.{steps_formed, well_formed}
use Rattle.protocol.specs.Certificates.{first_below, has_words, number_for, is_filed, can_file, file}
use Rattle.protocol.specs.Leader.{leads}
use Rattle.protocol.specs.Counter.{steps_from, steps_allowed, counter_step}
use Rattle.protocol.specs.Quorum.{every, contains, distinct, greatest_from, is_quorum}
use Rattle.protocol.specs.Outcome.{first_refusal, answered, follow}
use Rattle.protocol.specs.Calls.{issuing, fresh_replicas, opening, block, prepare, store, view, accumulate, decide, reboot}
use Rattle.protocol.specs.Calls.{reserve}
use Rattle.protocol.specs.Runs.{rule_of, step}
use Rattle.codes.specs.Codes.{claimed_word, when, code_table}
use Rattle.field.specs.Digits.{least_from, digit_count, digits}
use Rattle.field.specs.Field.{field_of, continued, unpadded, aligned, read_field}
use Rattle.ledger.specs.Called.{called_by, called}
use Rattle.script.specs.Lines.{numbers, has_numbers}
use Rattle.script.specs.Session.{lent_length, lending, answer_numbers, answer_line}
use Rattle.script.specs.Text.{line_of as fields_of, text_of as lines_of_fields, answer_text}
use Rattle.script.specs.Agreement.{event_table, line_event}
use Rattle.stream.specs.Output.{lines_from, answers_to, output}
use Rattle.stream.specs.Agreement.{told_history, told_within}
use Rattle.stream.specs.cases.Scripts.{line_of, text_of, worked_input, worked_output, WorkedScript, WorkedScriptTells}
use Rattle.stream.specs.cases.Scripts.{WorkedScriptOpens, steps_input, steps_output, StepsScript}

-- What a script prints. Everything that the program is made of opens with it.
unfoldable pub printed : List (List ℕ) → List ℕ
unfolding update append_certificate append_block all_hold all_below block_formed replica_formed certificate_formed lengths_fit
    counts_fit steps_formed well_formed first_below has_words number_for is_filed can_file file leads steps_from steps_allowed counter_step
    every contains distinct is_quorum greatest_from first_refusal answered follow issuing fresh_replicas
    opening block prepare store view accumulate decide reboot reserve rule_of step claimed_word when code_table least_from
    digit_count digits field_of continued unpadded aligned read_field called_by called numbers has_numbers lent_length
    lending answer_numbers answer_line answer_text lines_from answers_to output line_of text_of
    fields_of lines_of_fields
printed input = output (text_of input)

pub worked-script : WorkedScript
unfolding printed worked_input worked_output WorkedScript
worked-script = refl

pub steps-script : StepsScript
unfolding printed steps_input steps_output StepsScript
steps-script = refl

pub worked-script-tells : WorkedScriptTells
unfolding least_from digit_count digits field_of continued unpadded aligned read_field numbers lines_from line_of text_of worked_input
    worked_output WorkedScript event_table line_event told_history WorkedScriptTells
worked-script-tells = rw worked-script refl

pub worked-script-opens : WorkedScriptOpens
unfolding least_from digit_count digits field_of continued unpadded aligned read_field numbers lines_from line_of text_of worked_input
    worked_output WorkedScript WorkedScriptTells WorkedScriptOpens
worked-script-opens =
    record {
      opens = refl;
      accepted = rw worked-script refl;
      once = λ w. none-reopens _ refl (rw worked-script-tells at w);
    }

pub block_decided : Memᴰ (decided 0 1 1) (told_within (text_of worked_input) 0 10)
unfolding WorkedScriptTells
block_decided = rw worked-script-tells (Memᴰ.head refl)
