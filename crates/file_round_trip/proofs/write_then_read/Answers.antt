-- What was written is the file of the table, and its reading is the table again.
use mathlib.Core.Path.{◌≡◌, refl, sym, ap, ◌∙◌}
use mathlib.Core.List.{List}
use Prim.Native.Nat.{ℕ, ◌≤◌}
use native.Mathlib.Omega.{arith}
use lib.ListN.{length, take}
use lib.Seq.{length-take-le}
use Rattle.file_spec.specs.File.{write_reply, read_reply, read_words, read_levels}
use Rattle.file_round_trip.specs.TripLaws.{copy_refused, copy_kept, copy_kept-levels, written-front, written-long}
use Rattle.file_round_trip.specs.TripLaws.{copy_read, copy_words, copy_levels}
use Rattle.file_spec.specs.declared.Writing.TheVariants.{Written}
use Rattle.file_spec.specs.Replies.{copy_tells}
use Rattle.file_spec.specs.declared.Reading.{Reading}
use Rattle.file_round_trip.proofs.write_then_read.Goals as goal

pub slice_bounds-read-end : goal.slice_bounds-read-end
slice_bounds-read-end c =
    let done : write_reply c.args.units c.args.words.now c.args.levels.now
    (length c.args.file.now) ≡ Written c.in-Written.characters = sym c.write-done.ensures.reply ∙ c.in-Written.is in
    let long : c.in-Written.characters ≤ length c.write-done.new.out = let a = c.args in
    let fits = written-long a.units a.words.now a.levels.now (length a.file.now)
    c.in-Written.characters (done) a.file.now refl in
    omega (arith, fits, c.write-done.auto) in
    long

pub slice_bounds-read-end-in-Written : goal.slice_bounds-read-end-in-Written
slice_bounds-read-end-in-Written c =
    let done : write_reply c.args.units c.args.words.now c.args.levels.now
    (length c.args.file.now) ≡ Written c.in-Written.characters = sym c.write-done.ensures.reply ∙ c.in-Written.is in
    let long : c.in-Written.characters ≤ length c.write-done.new.out = let a = c.args in
    let fits = written-long a.units a.words.now a.levels.now (length a.file.now)
    c.in-Written.characters (done) a.file.now refl in
    omega (arith, fits, c.write-done.auto) in
    sym (length-take-le c.in-Written.characters
    c.write-done.new.out (long))

pub returns-in-Refused : goal.returns-in-Refused
returns-in-Refused c =
    let a = c.args in
    let e = sym c.write-done.ensures.reply ∙ c.in-Refused.is in
    let chars = length a.file.now in
    let places = length a.copy.now in
    let spaces = length a.copied.now in
    let reply = copy_refused a.units a.words.now a.levels.now chars c.in-Refused.number e places spaces in
    (let others = copy_tells a.units a.words.now a.levels.now chars places spaces
    (Reading.Refused c.in-Refused.number) reply in record {
      reply = reply;
      bytes = c.write-done.ensures.lent;
      same = copy_kept a.units a.words.now a.levels.now chars c.in-Refused.number e a.copy.now spaces;
      levels = copy_kept-levels a.units a.words.now a.levels.now chars c.in-Refused.number e places a.copied.now;
      number = others.0;
      values = others.1;
    })

pub returns-in-Written : goal.returns-in-Written
returns-in-Written c =
    let done : write_reply c.args.units c.args.words.now c.args.levels.now
    (length c.args.file.now) ≡ Written c.in-Written.characters = sym c.write-done.ensures.reply ∙ c.in-Written.is in
    let a = c.args in
    let e = done in
    let chars = length a.file.now in
    let places = length a.copy.now in
    let spaces = length a.copied.now in
    let front = ap (take c.in-Written.characters) c.write-done.ensures.lent
    ∙ written-front a.units a.words.now a.levels.now chars c.in-Written.characters e a.file.now refl in
    let reply = c.read.ensures.reply ∙ ap (λ (l : List ℕ). read_reply l places spaces) front
    ∙ copy_read a.units a.words.now a.levels.now chars c.in-Written.characters e places spaces in
    (let others = copy_tells a.units a.words.now a.levels.now chars places spaces c.read.result reply in record {
      reply = reply;
      bytes = c.write-done.ensures.lent;
      same = c.read.ensures.lent ∙ ap (λ (l : List ℕ). read_words l a.copy.now spaces) front
          ∙ copy_words a.units a.words.now a.levels.now chars c.in-Written.characters e a.copy.now spaces;
      levels = c.read.ensures.levels ∙ ap (λ (l : List ℕ). read_levels l places a.copied.now) front
          ∙ copy_levels a.units a.words.now a.levels.now chars c.in-Written.characters e places a.copied.now;
      number = others.0;
      values = others.1;
    })
