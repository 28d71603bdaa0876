-- The line of a site from what the calls tell of it.
use Rattle.std.proofs.Math.Path.{◌≡◌, refl, sym, ap}
use Rattle.std.proofs.Common.{◌∙◌, inl, inr, append-nil, add-one, take_at}
use Rattle.std.specs.Prelude.{Bool, not, ◌&&◌, ◌⊎◌, ◌↔◌, List, [], ◌∷◌, ◌++◌, ltb, ℤ, pos, get_or, take, drop}
use Rattle.std.specs.Prelude.{replicate}
use Rattle.std.proofs.Math.Bool.{true, false, cond}
use Rattle.std.proofs.lemmas.Bool.{false≢true}
use Prim.Native.Nat.{ℕ, zero, suc, ◌+◌, ◌*◌, ◌/◌, ◌%◌, ◌^◌, ◌≤◌, ◌<◌, min}
use Rattle.std.proofs.Math.Decide.{dec_lt}
use native.Mathlib.Omega.{arith}
use Rattle.std.proofs.Math.ListN.{length, length-append}
use borrow.Author.Tests.{eq-eqb, lt-ltb, le-ltb}
use Rattle.base_lists.specs.Tables.{tab, get_d_tab}
use Rattle.base_lists.specs.Tests.{either}
use Rattle.base_lists.specs.Gathered.{gathered, length-gathered, gathered-at}
use Rattle.base_lists.specs.Lent.{lent, back}
use Rattle.table.specs.Table.{link_count}
use Rattle.table.proofs.Passes.{passes, table-alone}
use Rattle.file_frames.specs.Frame.{line_of, line_over, line_length}
use Rattle.file_frames.specs.FrameLaws.{length-line}
use Rattle.file_frames.specs.FrameRests.{line-next}
use Rattle.spec_state.specs.declared.groups.Table.{Table}
use Rattle.spec_machine.specs.State.{State, units, finished, FINISHED}
use Rattle.spec_machine.specs.Load.{Input, links_in, stored_load_refusal, unloaded}
use Rattle.spec_machine.specs.WellFormed.{well_formed}
use Rattle.spec_machine.specs.Report.{unit_single}
use Rattle.spec_machine.specs.Calls.{stored_load_answer, unit_answer, unit_refusal, question_refusal}
use Rattle.theory_graph.specs.Rings.{Articulation}
use Rattle.theory_reach.specs.Site.{Link}
use Rattle.theory_reach.specs.Reach.{SurveyRight}
use Rattle.report_program.specs.Printed.{surveyed}
use Rattle.report_program.specs.PrintedLaws.{surveyed-table, surveyed-finished, surveyed-well_formed, surveyed-right}
use Rattle.small_tables.specs.Small as Small
use Rattle.small_tables.specs.SmallLaws.{laid}
use Rattle.small_tables.specs.Listing.{Site, SITES, site_at}
use Rattle.small_tables.specs.ListingLaws.{all_listed}
use Rattle.small_tables.specs.Accepted.{site-accepted}
use Rattle.small_tables.specs.MaskLaws.{mask-bit}
use Rattle.small_sites.specs.SitesRight.{LineRight, SitesRight}
use Rattle.small_sites.specs.Sites.{opened, input_of, singles_in, body_of, lines_to, printed, PRINTED, told_single}

-- ---- tables

pub take_same : (k n : ℕ) → k ≤ n → take k (replicate n (pos 0)) ≡ replicate k (pos 0)
take_same zero n l = refl
take_same (suc k) zero l = absurd (omega arith)
take_same (suc k) (suc n) l = ap (λ ls. pos 0 ∷ ls) (take_same k n (omega arith))

-- what is opened with so many levels of 0
pub opened-by : (n : ℕ) (words : List ℕ) (levels : List ℤ) (s begun : State)
    → begun ≡ (stored_load_answer (record { units = n; words = words; levels = levels }) s).state
    → levels ≡ take (link_count words) (replicate 1024 (pos 0)) → link_count words ≤ 1024 → s ≡ unloaded
    → begun ≡ (stored_load_answer (opened n words) unloaded).state
opened-by n words levels s begun e f l u = rw (u, f, take_same (link_count words) 1024 l) at e

-- a table that passes has few links
pub few-links : (n : ℕ) (words : List ℕ) → stored_load_refusal (opened n words) ≡ 0 → link_count words ≤ 1024
few-links n words a = (passes n words (table-alone n words (replicate (link_count words) (pos 0)) a)).few_links

-- ---- the answers about the units of a survey at its end

module _ (input : Input) (accepted : stored_load_refusal input ≡ 0) where
  refusal-by : (v : ℕ) (b : Bool) → ltb v input.units ≡ b → unit_refusal v (surveyed input) ≡ cond b 0 13
  unfolding unit_refusal question_refusal
  refusal-by v b e =
      let n : units (surveyed input) ≡ input.units = ap (λ (t : Table). t.units) (surveyed-table input accepted) in
      let at-end : finished (surveyed input) ≡ true =
      eq-eqb (surveyed input).clock.stage FINISHED (surveyed-finished input accepted) in
      rw (surveyed-well_formed input accepted, at-end, n, e) (last b)
    where
      last : (c : Bool) → ◌≡◌ {A = ℕ} (cond (not c) 13 0) (cond c 0 13)
      last true = refl
      last false = refl

  told : (v : ℕ) → told_single (unit_answer v (surveyed input)).reply
      ≡ (ltb v input.units && unit_single (surveyed input) v)
  unfolding unit_answer
  told v = go (ltb v input.units) (refusal-by v (ltb v input.units) refl)
    where
      go : (b : Bool) → unit_refusal v (surveyed input) ≡ cond b 0 13
          → told_single (unit_answer v (surveyed input)).reply ≡ (b && unit_single (surveyed input) v)
      go true e = rw e refl
      go false e = rw e refl

  -- five answers
  pub all_told : (n : ℕ) → input.units ≡ n
      → told_single (unit_answer 0 (surveyed input)).reply ∷ told_single (unit_answer 1 (surveyed input)).reply
      ∷ told_single (unit_answer 2 (surveyed input)).reply ∷ told_single (unit_answer 3 (surveyed input)).reply
      ∷ told_single (unit_answer 4 (surveyed input)).reply ∷ []
      ≡ singles_in n (surveyed input)
  unfolding singles_in
  all_told n e = rw (told 0, told 1, told 2, told 3, told 4, e) refl

-- ---- a site of the listing

-- its first words are its table, which passes
module _ (i n k : ℕ) (l : i < SITES) (e : (n, k) ≡ site_at i) where
  in_range_lem : (1 ≤ n) × (n ≤ 5)
  in_range_lem =
      let r = all_listed.only i l in
      let p : (1 ≤ (site_at i).0) × ((site_at i).0 ≤ 5) = (r.0, r.1) in
      rw (← e) at p

  pub site-words : (words : List ℕ) (count : ℕ) → words ≡ laid (Small.table_of (min n 5) k)
      → count ≡ length (Small.table_of (min n 5) k) → take count words ≡ Small.table_of n k
  unfolding laid
  site-words words count w c =
      let five : min n 5 ≡ n = omega (arith, in_range_lem.1) in
      let whole : length (Small.table_of n k) ≡ count = sym (rw five at c) in
      rw (w, five) (take_at (Small.table_of n k) (drop (length (Small.table_of n k)) (replicate 20 0)) count whole)

  pub site-fits : (words : List ℕ) (count : ℕ) → words ≡ laid (Small.table_of (min n 5) k)
      → count ≡ length (Small.table_of (min n 5) k) → count ≤ length words
  unfolding laid
  site-fits words count w c = rw w (omega (
    arith,
    c,
    length-append (Small.table_of (min n 5) k) (drop (length (Small.table_of (min n 5) k)) (replicate 20 0)),
  ))

  pub site-passes : stored_load_refusal (input_of (n, k)) ≡ 0
  site-passes = site-accepted n k in_range_lem.0 in_range_lem.1

  pub site-body : (mask : ℕ) (singles : List Bool) → mask ≡ Small.mask_of singles
      → singles ≡ singles_in n (surveyed (input_of (n, k))) → Small.small_body n k mask ≡ body_of (site_at i)
  unfolding body_of
  site-body mask singles m s = rw (← e, m, s) refl

-- ---- the lines one after the other

line-long : (s : Site) → length (line_of (body_of s)) ≡ 15
unfolding body_of
line-long s = length-line (body_of s)

body-long : (s : Site) → line_length (body_of s) ≡ 15
unfolding body_of
body-long s = refl

lines_long : (k : ℕ) → length (lines_to k) ≡ 15 * k
unfolding lines_to
lines_long k = length-gathered k 15 (λ (i : ℕ). line_of (body_of (site_at i))) (λ i l. line-long (site_at i))

pub lines_none : (out : List ℕ) → out ≡ lines_to 0 ++ drop (15 * 0) out
unfolding lines_to
lines_none out = refl

one_more : (i : ℕ) → lines_to i ++ line_of (body_of (site_at i)) ≡ lines_to (suc i)
unfolding lines_to
one_more i = refl

pub lines_next : (i : ℕ) (out : List ℕ) → 15 * i + 15 ≤ length out
    → back (15 * i) (lines_to i ++ drop (15 * i) out)
    (line_over (body_of (site_at i)) (lent (15 * i) (lines_to i ++ drop (15 * i) out)))
    ≡ lines_to (i + 1) ++ drop (15 * (i + 1)) out
lines_next i out l =
    let f = body_of (site_at i) in
    let more : 15 * i + line_length f ≡ 15 * (i + 1) = omega (arith, body-long (site_at i)) in
    line-next f (lines_to i) out (15 * i) (lines_long i) (omega (arith, body-long (site_at i)))
    ∙ rw (more, add-one i) (ap (λ (ls : List ℕ). ls ++ drop (15 * suc i) out) (one_more i))

pub lines-all : (i : ℕ) (out now : List ℕ) → now ≡ lines_to i ++ drop (15 * i) out → i ≡ SITES →
    now ≡ printed ++ drop PRINTED out
lines-all i out now e f = rw f at e

-- ---- what is printed

line_in_lem : (k i : ℕ) → i < k → take 15 (drop (15 * i) (lines_to k)) ≡ line_of (body_of (site_at i))
unfolding lines_to
line_in_lem k i l =
    ap (λ (ls : List ℕ). take 15 (drop (15 * i) ls)) (sym (append-nil (lines_to k)))
    ∙ gathered-at k 15 (λ (j : ℕ). line_of (body_of (site_at j))) [] (λ j h. line-long (site_at j)) i l

-- the flag of a unit is set exactly where it is a single point of the site
flag-right : (s : Site) → stored_load_refusal (input_of s) ≡ 0 → (v : ℕ)
    → ((ltb v s.0 && unit_single (surveyed (input_of s)) v) ≡ true)
    ↔ ((v < s.0) × Articulation (Link (links_in (input_of s)) (input_of s).words) v)
flag-right s a v = go (dec_lt v s.0) (λ l. (surveyed-right (input_of s) a).singles v l)
  where
    go : Dec (v < s.0)
        → (v < s.0
        → (unit_single (surveyed (input_of s)) v
        ≡ true) ↔ Articulation (Link (links_in (input_of s)) (input_of s).words) v)
        → ((ltb v s.0 && unit_single (surveyed (input_of s)) v) ≡ true)
        ↔ ((v < s.0) × Articulation (Link (links_in (input_of s)) (input_of s).words) v)
    go (yes l) r = rw (lt-ltb v s.0 l) (λ e. (l, (r l).0 e), λ p. (r l).1 p.1)
    go (no l) r = rw (le-ltb v s.0 (omega arith)) (λ e. absurd (false≢true e), λ p. absurd (l p.0))

bit-right : (s : Site) → stored_load_refusal (input_of s) ≡ 0 → (v : ℕ) → v < 5
    → (Small.mask_of (singles_in s.0 (surveyed (input_of s))) / 2 ^ v % 2 ≡ 1)
    ↔ ((v < s.0) × Articulation (Link (links_in (input_of s)) (input_of s).words) v)
unfolding singles_in
bit-right s a v h =
    let e = surveyed (input_of s) in
    let m = mask-bit (singles_in s.0 e) v h in
    let f = flag-right s a v in
    let at : get_or (singles_in s.0 e) v false ≡ (ltb v s.0 && unit_single e v) =
    get_d_tab 5 (λ (u : ℕ). ltb u s.0 && unit_single e u) v false h in
    (λ b. f.0 (sym at ∙ m.0 b), λ p. m.1 (at ∙ f.1 p))

line-right : (i : ℕ) → i < SITES → LineRight i
unfolding body_of
line-right i l =
    let s = site_at i in
    let accepted = site-passes i s.0 s.1 l refl in
    record {
      mask = Small.mask_of (singles_in s.0 (surveyed (input_of s)));
      line = line_in_lem SITES i l;
      accepted = accepted;
      bits = bit-right s accepted;
    }

pub sites_right : SitesRight
sites_right = record { listed = all_listed; long = lines_long SITES; lines = line-right }
