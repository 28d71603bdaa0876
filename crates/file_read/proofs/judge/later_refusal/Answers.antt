-- Each return is the first cause.
use Rattle.std.proofs.Common.{inl, inr}
use borrow.Author.Rules.{rules}
use Rattle.file_spec.proofs.ReadLaws.{later_6, later_16, later_14, later_0}
use Rattle.file_read.proofs.judge.later_refusal.Goals as goal

pub returns-then-links-gt-MAX_LINKS : goal.returns-then-links-gt-MAX_LINKS
returns-then-links-gt-MAX_LINKS c = let a = c.args in later_6 a.links a.outside a.places a.spaces (search rules)

pub returns-then-outside : goal.returns-then-outside
returns-then-outside c =
    let a = c.args in later_16 a.links a.outside a.places a.spaces (search rules) (search rules)

pub returns-then-places-links : goal.returns-then-places-links
returns-then-places-links c =
    let a = c.args in later_14 a.links a.outside a.places a.spaces (search rules) (search rules) (inl (search rules))

pub returns-then-spaces-links : goal.returns-then-spaces-links
returns-then-spaces-links c =
    let a = c.args in later_14 a.links a.outside a.places a.spaces (search rules) (search rules) (inr (search rules))

pub returns-else-spaces-links : goal.returns-else-spaces-links
returns-else-spaces-links c =
    let a = c.args in
    later_0 a.links a.outside a.places a.spaces (search rules) (search rules) (search rules) (search rules)
