-- A kind of the code as the number that the rules have for it.
use Rattle.std.specs.Prelude.{ℕ}
use Rattle.protocol.specs.Certificates.{PROP, COMMIT, NEWVIEW, ACC, REQ, REPLY}
use Rattle.certificate_log.specs.declared.Kind.{Kind}
use Rattle.certificate_log.specs.declared.Kind.TheVariants.{Prop, Commit, NewView, Acc, Req, Reply}

abbrev pub kind_word : Kind → ℕ
kind_word Prop = PROP
kind_word Commit = COMMIT
kind_word NewView = NEWVIEW
kind_word Acc = ACC
kind_word Req = REQ
kind_word Reply = REPLY
