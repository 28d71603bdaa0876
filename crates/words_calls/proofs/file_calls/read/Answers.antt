-- The reply of `file_spec`, told word by word.
use mathlib.Core.Path.{sym, ap, ◌∙◌}
use lib.ListN.{length}
use Rattle.file_spec.specs.File.{reading_number}
use Rattle.words_calls.specs.FileFaceLaws.{units_said, links_said, units-said, links-said}
use Rattle.words_calls.proofs.file_calls.read.Goals as goal

pub returns-in-Refused : goal.returns-in-Refused
returns-in-Refused c =
    let a = c.args in
    let told = sym c.in-Refused.is ∙ c.read-found.ensures.reply in
    let places = length a.words.now in
    let spaces = length a.levels.now in record {
      number = ap reading_number (sym c.in-Refused.is) ∙ c.read-found.ensures.number;
      words = c.read-found.ensures.lent;
      levels = c.read-found.ensures.levels;
      units = ap (λ x. units_said x a.units.now) told ∙ units-said a.file.now places spaces a.units.now;
      links = ap (λ x. links_said x a.links.now) told ∙ links-said a.file.now places spaces a.links.now;
    }

pub returns-in-Read : goal.returns-in-Read
returns-in-Read c =
    let a = c.args in
    let told = sym c.in-Read.is ∙ c.read-found.ensures.reply in
    let places = length a.words.now in
    let spaces = length a.levels.now in record {
      number = ap reading_number (sym c.in-Read.is) ∙ c.read-found.ensures.number;
      words = c.read-found.ensures.lent;
      levels = c.read-found.ensures.levels;
      units = ap (λ x. units_said x a.units.now) told ∙ units-said a.file.now places spaces a.units.now;
      links = ap (λ x. links_said x a.links.now) told ∙ links-said a.file.now places spaces a.links.now;
    }
