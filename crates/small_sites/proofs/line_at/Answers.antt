-- The site, its table, its survey, its line.
use mathlib.Core.Path.{◌≡◌, sym}
use lib.ListN.{take}
use lib.Seq.{length-take-le}
use Rattle.small_tables.specs.Small.{table_of}
use Rattle.small_sites.specs.SitesLaws.{site-words, site-fits, site-passes, site-body}
use Rattle.small_sites.proofs.line_at.Goals as goal

pub slice_bounds-words-end : goal.slice_bounds-words-end
slice_bounds-words-end c =
    site-fits c.args.i _ _ c.requires c.site_at-site.ensures _ _ c.table-table.ensures.words
    c.table-table.ensures.count

pub slice_bounds-surveyed-end : goal.slice_bounds-surveyed-end
slice_bounds-surveyed-end c =
    sym (length-take-le _ _
    (site-fits c.args.i _ _ c.requires c.site_at-site.ensures _ _ c.table-table.ensures.words
    c.table-table.ensures.count))

pub surveyed-requires : goal.surveyed-requires
surveyed-requires c =
    let words_are : take c.table-table.result.count c.table-table.result.words
    ≡ table_of c.site_at-site.result.units c.site_at-site.result.number
    = site-words c.args.i _ _ c.requires c.site_at-site.ensures _ _ c.table-table.ensures.words
    c.table-table.ensures.count in
    rw words_are (site-passes c.args.i _ _ c.requires c.site_at-site.ensures)

pub returns : goal.returns
returns c =
    let words_are : take c.table-table.result.count c.table-table.result.words
    ≡ table_of c.site_at-site.result.units c.site_at-site.result.number
    = site-words c.args.i _ _ c.requires c.site_at-site.ensures _ _ c.table-table.ensures.words
    c.table-table.ensures.count in
    let body = site-body c.args.i _ _ c.requires c.site_at-site.ensures _ _ c.mask-mask.ensures
    (rw words_are at c.surveyed.ensures) in
    rw body at c.line.ensures
