-- A certificate of the code as the rules have it, and one of the rules as the code has it.
use Rattle.protocol.specs.Memory as Memory
use Rattle.certificate_log.specs.declared.Certificate.{Certificate}

abbrev pub certificate_of : Certificate → Memory.Certificate
certificate_of c =
    record {
      kind = c.kind;
      signer = c.signer;
      view = c.view;
      block = c.block;
      of_view = c.of_view;
      subject = c.subject;
      subject_boot = c.subject_boot;
      signer_boot = c.signer_boot;
    }

abbrev pub certificate_from : Memory.Certificate → Certificate
certificate_from c =
    record {
      kind = c.kind;
      signer = c.signer;
      view = c.view;
      block = c.block;
      of_view = c.of_view;
      subject = c.subject;
      subject_boot = c.subject_boot;
      signer_boot = c.signer_boot;
    }
