-- The eight words, laid down.
use mathlib.Core.Path.{ap, ◌∙◌}
use mathlib.Core.List.{List}
use Prim.Native.Nat.{ℕ}
use lib.Seq.{sets}
use Rattle.value_player.proofs.replies.store.Goals as goal

pub returns : goal.returns
returns c =
    let a = c.args in
    c.put_eight.ensures
    ∙ ap (λ (ws : List ℕ). sets a.replies.now a.at ws) c.eight.ensures
