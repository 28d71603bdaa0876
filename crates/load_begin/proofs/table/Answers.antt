-- The two arrays, and half as many links as words.
use mathlib.Core.Path.{◌≡◌, refl, sym, ◌∙◌}
use lib.ListN.{length, take, length-take}
use Rattle.load_begin.proofs.table.Goals as goal

pub returns : goal.returns
returns c =
    let w = c.args.words.now in
    let count : c.held-count.result ≡ length (take 2048 w) = c.held-count.ensures ∙ sym (length-take 2048 w) in
    rw (c.heard.ensures, c.ends.ensures, count) refl
