use mathlib.Core.Path.{◌∙◌}
use mathlib.Core.Bool.{◌&&◌}
use lib.Dec.{eqb}
use Rattle.protocol.proofs.memory.Blocks.{root_test}
use Rattle.blocks.proofs.root_formed.Goals as goal

pub returns : goal.returns
returns c = (λ d. eqb (c.parent-parent.ensures d) 0 && eqb (c.height-height.ensures d) 0) ∙ root_test _ _
