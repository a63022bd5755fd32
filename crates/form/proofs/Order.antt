-- The tests of a replica in the order of its words, as the code makes them, and in the order of document 01.
use mathlib.Core.Path.{◌≡◌, ◌∙◌}
use mathlib.Core.Bool.{Bool}
use mathlib.Core.List.{[], ◌∷◌}
use borrow.Author.Rules.{rules}
use Rattle.protocol.specs.Form.{all_hold}
use Rattle.protocol.proofs.logic.Joined.{joined, joined_all, reordered}

pub replica_order : (status boot min_view view_min view_limit flag stored_view stored_block decided_view decided_block : Bool)
    → joined status (boot ∷ min_view ∷ view_min ∷ view_limit ∷ flag ∷ stored_view ∷ stored_block ∷ decided_view ∷ decided_block ∷ [])
    ≡ all_hold (status ∷ flag ∷ min_view ∷ view_min ∷ view_limit ∷ stored_view ∷ decided_view ∷ boot ∷ stored_block ∷ decided_block ∷ [])
replica_order status boot min_view view_min view_limit flag stored_view stored_block decided_view decided_block =
    joined_all status (boot ∷ min_view ∷ view_min ∷ view_limit ∷ flag ∷ stored_view ∷ stored_block ∷ decided_view ∷ decided_block ∷ [])
    ∙ reordered _ _ (λ h. search rules) (λ h. search rules)
