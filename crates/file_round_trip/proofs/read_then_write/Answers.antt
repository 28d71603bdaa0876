-- What was read is written back as the file it came from, each link line with its level.
use mathlib.Core.Path.{◌≡◌, refl, sym, ap, ap₂, ◌∙◌}
use mathlib.Core.List.{List}
use Prim.Native.Nat.{ℕ, ◌*◌, ◌≤◌}
use native.Mathlib.Omega.{arith}
use lib.ListN.{length, take}
use lib.IntN.{ℤ}
use lib.Seq.{length-take-le}
use Rattle.file_spec.specs.File.{read_reply, write_reply, written_file}
use Rattle.file_spec.proofs.ReadLaws.{read-front, read-front-levels, read-long, read-long-levels}
use Rattle.file_round_trip.specs.TripLaws.{rewrite_refused, rewrite_kept, rewrite_written, rewrite_bytes}
use Rattle.file_spec.specs.declared.Reading.TheVariants.{Read}
use Rattle.file_spec.specs.Replies.{rewrite_tells}
use Rattle.file_spec.specs.declared.Writing.{Writing}
use Rattle.file_round_trip.proofs.read_then_write.Goals as goal

pub slice_bounds-write-end : goal.slice_bounds-write-end
slice_bounds-write-end c =
    let found : read_reply c.args.file.now (length c.args.words.now)
    (length c.args.levels.now)
    ≡ Read c.in-Read.units c.in-Read.links = sym c.read-found.ensures.reply ∙ c.in-Read.is in
    let long : 2 * c.in-Read.links ≤ length c.read-found.new.words = let a = c.args in
    let fits = read-long a.file.now (length a.words.now) (length a.levels.now) c.in-Read.units c.in-Read.links (found)
    a.words.now refl in
    omega (arith, fits, c.read-found.auto) in
    long

pub slice_bounds-write-end-in-Read : goal.slice_bounds-write-end-in-Read
slice_bounds-write-end-in-Read c =
    let found : read_reply c.args.file.now (length c.args.words.now)
    (length c.args.levels.now)
    ≡ Read c.in-Read.units c.in-Read.links = sym c.read-found.ensures.reply ∙ c.in-Read.is in
    let long : 2 * c.in-Read.links ≤ length c.read-found.new.words = let a = c.args in
    let fits = read-long a.file.now (length a.words.now) (length a.levels.now) c.in-Read.units c.in-Read.links (found)
    a.words.now refl in
    omega (arith, fits, c.read-found.auto) in
    sym (length-take-le (2 * c.in-Read.links)
    c.read-found.new.words (long))

pub slice_bounds-write-end-in-Read-2 : goal.slice_bounds-write-end-in-Read-2
slice_bounds-write-end-in-Read-2 c =
    let found : read_reply c.args.file.now (length c.args.words.now)
    (length c.args.levels.now)
    ≡ Read c.in-Read.units c.in-Read.links = sym c.read-found.ensures.reply ∙ c.in-Read.is in
    let longLevels : c.in-Read.links ≤ length c.read-found.new.levels = let a = c.args in
    let fits = read-long-levels a.file.now (length a.words.now) (length a.levels.now) c.in-Read.units c.in-Read.links
    (found) a.levels.now refl in
    omega (arith, fits, c.read-found.auto) in
    longLevels

pub slice_bounds-write-end-in-Read-3 : goal.slice_bounds-write-end-in-Read-3
slice_bounds-write-end-in-Read-3 c =
    let found : read_reply c.args.file.now (length c.args.words.now)
    (length c.args.levels.now)
    ≡ Read c.in-Read.units c.in-Read.links = sym c.read-found.ensures.reply ∙ c.in-Read.is in
    let longLevels : c.in-Read.links ≤ length c.read-found.new.levels = let a = c.args in
    let fits = read-long-levels a.file.now (length a.words.now) (length a.levels.now) c.in-Read.units c.in-Read.links
    (found) a.levels.now refl in
    omega (arith, fits, c.read-found.auto) in
    sym (length-take-le c.in-Read.links
    c.read-found.new.levels (longLevels))

pub returns-in-Refused : goal.returns-in-Refused
returns-in-Refused c =
    let a = c.args in
    let e = sym c.read-found.ensures.reply ∙ c.in-Refused.is in
    let places = length a.words.now in
    let spaces = length a.levels.now in
    let chars = length a.copy.now in
    let reply = rewrite_refused a.file.now places spaces c.in-Refused.number e chars in
    (let others = rewrite_tells a.file.now places spaces chars (Writing.Refused c.in-Refused.number) reply in
    record {
      reply = reply;
      ends = c.read-found.ensures.lent;
      levels = c.read-found.ensures.levels;
      same = rewrite_kept a.file.now places spaces c.in-Refused.number e a.copy.now;
      number = others.0;
      values = others.1;
    })

pub returns-in-Read : goal.returns-in-Read
returns-in-Read c =
    let found : read_reply c.args.file.now (length c.args.words.now)
    (length c.args.levels.now)
    ≡ Read c.in-Read.units c.in-Read.links = sym c.read-found.ensures.reply ∙ c.in-Read.is in
    let a = c.args in
    let e = found in
    let places = length a.words.now in
    let spaces = length a.levels.now in
    let chars = length a.copy.now in
    let front = ap (take (2 * c.in-Read.links)) c.read-found.ensures.lent
    ∙ read-front a.file.now places spaces c.in-Read.units c.in-Read.links e a.words.now refl in
    let levels = ap (take c.in-Read.links) c.read-found.ensures.levels
    ∙ read-front-levels a.file.now places spaces c.in-Read.units c.in-Read.links e a.levels.now refl in
    let reply =
    c.write.ensures.reply ∙ ap₂ (λ (l : List ℕ) (z : List ℤ). write_reply c.in-Read.units l z chars) front levels
    ∙ rewrite_written a.file.now places spaces c.in-Read.units c.in-Read.links e chars in
    (let others = rewrite_tells a.file.now places spaces chars c.write.result reply in record {
      reply = reply;
      ends = c.read-found.ensures.lent;
      levels = c.read-found.ensures.levels;
      same = c.write.ensures.lent
          ∙ ap₂ (λ (l : List ℕ) (z : List ℤ). written_file c.in-Read.units l z a.copy.now) front levels
          ∙ rewrite_bytes a.file.now places spaces c.in-Read.units c.in-Read.links e a.copy.now;
      number = others.0;
      values = others.1;
    })
