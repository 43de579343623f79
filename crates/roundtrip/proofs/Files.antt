-- Writing any writable lists and reading the file so made gives those lists back, by contents; the file is plain, has the signature, and no
-- number in it is above a limit.
use Prim.Native.Nat.{ℕ, ◌+◌}
use mathlib.Core.Path.{◌≡◌, refl, sym, ap, subst, ◌∙◌}
use mathlib.Core.Bool.{Bool, true, false, not, ◌||◌, true≢false}
use mathlib.Core.List.{List, [], ◌∷◌, ◌++◌, map, append-nil, append_assoc}
use Rattle.std.specs.Prelude.{Option, None, Some}
use native.Mathlib.Omega.{arith}
use lib.Dec.{ltb}
use lib.ListN.{length, get_or}
use borrow.Author.Tests.{eqb-true, not-true}
use Rattle.format.specs.Texts.{is_empty}
use Rattle.format.specs.Plain.{Plain}
use Rattle.format.specs.RegionSettings.{RegionValues, last_named}
use Rattle.format.specs.TimingLines.{timing_line}
use Rattle.format.specs.Blocks.{lines_at, bytes_of, blocks, has_signature, joined}
use Rattle.format.specs.Lists.{Cue, Item, cue, cue_of, meaning, is_cue, items_from, items, into, listed, lists, item_over, any_over}
use Rattle.format.specs.Rows.{ids, region_for, style_entry}
use Rattle.format.specs.Contents.{CueContents, RegionContents, Contents, cue_contents, region_contents, contents, contents_of_rows, cue_of_row, region_of_row, style_of_row}
use Rattle.format.specs.Writable.{unbroken, is_index, last_of_its_name, names_of, cue_fails, region_fails, style_fails, cue_test1, cue_test6, cue_tests, region_test1, region_tests, style_test1}
use Rattle.format.specs.Written.{style_lines, region_lines, written_timing, cue_lines, file_lines, written}
use Rattle.format.specs.Answers.{Answer, accepted}
use Rattle.format.specs.Writing.{or_else, first_in, unless_failing, writing}
use Rattle.laws.proofs.Tests.{and_left, and_right}
use Rattle.laws.proofs.Standing.{All, bytes-lines}
use Rattle.laws.proofs.Standing as Standing
use Rattle.laws.proofs.Contents.{contents-same, over-same}
use Rattle.roundtrip.proofs.Shape.{Block, file_of, blocks-file, signature-file, cue-block, style-block, cue_means, style_means, none-fails}
use Rattle.roundtrip.proofs.Cues.{region_name, named_at, timing_arrow, timing_line_lem, TimingRead, timing_read, CueWritable, cue_writable}
use Rattle.roundtrip.proofs.Regions.{Regional, region_lines-block, region_lines_mean, region-passes}
use Rattle.roundtrip.proofs.Plain.{all_map, plain-written, rows-plain}

-- what these blocks give, wherever they stand
abbrev given : Bool → List (List (List ℕ)) → List Item
given seen bs = items_from seen (map (lines_at 0 0) bs)

-- the first items add these styles and regions to what the others give
record Adds (is rest : List Item) (ss : List (List ℕ)) (rs : List RegionContents) : Type 0 where
  styles : map (λ t. t.bytes) (listed is).styles ≡ ss ++ map (λ t. t.bytes) (listed rest).styles
  regions : map region_contents (listed is).regions ≡ rs ++ map region_contents (listed rest).regions
  cues : (listed is).cues ≡ (listed rest).cues
  over : any_over is ≡ any_over rest

styles_add :
    (ts : List (List ℕ)) (rest : List (List (List ℕ)))
    → All (λ t. unbroken t ≡ true) ts
    → Adds (given false (map style_lines ts ++ rest)) (given false rest) ts []
unfolding items_from is_cue listed into any_over item_over
styles_add [] rest h = record { styles = refl; regions = refl; cues = refl; over = refl }
styles_add (t ∷ ts) rest h =
    let more = styles_add ts rest h.1 in
    rw (style_means 0 0 t h.0)
    (record { styles = ap (λ r. t ∷ r) more.styles; regions = more.regions; cues = more.cues; over = more.over })

regions_add :
    (rs : List RegionContents) (rest : List (List (List ℕ)))
    → All Regional rs
    → Adds (given false (map region_lines rs ++ rest)) (given false rest) [] rs
unfolding items_from is_cue listed into any_over item_over
regions_add [] rest h = record { styles = refl; regions = refl; cues = refl; over = refl }
regions_add (r ∷ rs) rest h =
    let more = regions_add rs rest h.1 in
    let first = region_lines_mean 0 0 r h.0 in
    rw first.is
    (record {
      styles = more.styles;
      regions = rw first.same (ap (λ x. r ∷ x) more.regions);
      cues = more.cues;
      over = more.over;
    })

index_is_lem : (o : Option ℕ) (i : ℕ) → is_index o i ≡ true → o ≡ Some i
unfolding is_index
index_is_lem None i e = absurd (true≢false (sym e))
index_is_lem (Some j) i e = ap Some (eqb-true j i e)

-- the region of a written cue is found again
region_back :
    (rs : List RegionContents) (read : List RegionValues) (o : Option ℕ) (p : ℕ)
    → ids read ≡ map (λ r. r.id) rs
    → cue_test6 (map (λ r. r.id) rs) o ≡ true
    → region_for read (record { place = p; bytes = region_name rs o }) ≡ o
unfolding region_for cue_test6 last_of_its_name is_empty
region_back rs read None p e a = refl
region_back rs read (Some i) p e a =
    let names = map (λ r. r.id) rs in
    let name = get_or names i [] in
    let rest = and_right (ltb i (length names)) _ a in
    let some-name : is_empty name ≡ false = not-true (is_empty name) (and_left (not (is_empty name)) _ rest) in
    rw (some-name, e) (index_is_lem (last_named 0 name names) i (and_right (not (is_empty name)) _ rest))

-- the items give these cues, looked up among the regions that were read, and nothing else
record Gives (read : List RegionValues) (is : List Item) (cs : List CueContents) : Type 0 where
  cues : map (cue_contents read) (listed is).cues ≡ cs
  regions : (listed is).regions ≡ []
  styles : (listed is).styles ≡ []
  over : any_over is ≡ false

-- one written cue
pub record CueRead (read : List RegionValues) (c : CueContents) (i : Item) : Type 0 where
  pub values : Cue
  pub is : i ≡ cue values false
  pub same : cue_contents read values ≡ c

pub cue_read :
    (rs : List RegionContents) (read : List RegionValues) (seen : Bool) (c : CueContents)
    → ids read ≡ map (λ r. r.id) rs
    → CueWritable rs c
    → CueRead read c (meaning seen (lines_at 0 0 (cue_lines rs c)))
unfolding cue_lines cue_of cue_contents
cue_read rs read seen c e f =
    let m = cue_means seen 0 0 c.id (written_timing rs c) c.text f.line f.plain (timing_arrow rs c) in
    let l = m.line in
    let t : TimingRead rs c (timing_line l) =
    subst (λ b. TimingRead rs c (timing_line (record { place = l.place; bytes = b }))) (sym m.timed)
    (timing_read rs c l.place f.start f.end f.settable) in
    record {
      values = record { id = m.name; start = c.start; end = c.end; settings = c.settings; region = named_at rs c t.place; text = joined m.rest };
      is = m.is ∙ ap (cue_of m.name m.rest) t.is;
      same = rw (m.named, m.says, region_back rs read c.region t.place e f.region);
    }

cues_give :
    (rs : List RegionContents) (read : List RegionValues) (seen : Bool) (cs : List CueContents)
    → ids read ≡ map (λ r. r.id) rs
    → All (CueWritable rs) cs
    → Gives read (given seen (map (cue_lines rs) cs)) cs
unfolding items_from listed into any_over item_over
cues_give rs read seen [] e h = record { cues = refl; regions = refl; styles = refl; over = refl }
cues_give rs read seen (c ∷ cs) e h =
    let first = cue_read rs read seen c e h.0 in
    let more = cues_give rs read (seen || is_cue (cue first.values false)) cs e h.1 in
    rw first.is
    (record { cues = rw (first.same, more.cues); regions = more.regions; styles = more.styles; over = more.over })

pub ids-contents : (read : List RegionValues) → ids read ≡ map (λ r. r.id) (map region_contents read)
unfolding ids region_contents
ids-contents [] = refl
ids-contents (r ∷ read) = ap (λ x. r.id.bytes ∷ x) (ids-contents read)

-- values with these contents
valued : RegionContents → RegionValues
valued r = record { id = record { place = 0; bytes = r.id }; settings = r.settings }

ids_valued : (rs : List RegionContents) → ids (map valued rs) ≡ map (λ r. r.id) rs
unfolding ids valued
ids_valued [] = refl
ids_valued (r ∷ rs) = ap (λ x. r.id ∷ x) (ids_valued rs)

placed_bytes : (bs : List (List (List ℕ))) → map bytes_of (map (lines_at 0 0) bs) ≡ bs
placed_bytes [] = refl
placed_bytes (b ∷ bs) = let e = bytes-lines 0 0 b in let f = placed_bytes bs in rw (e, f)

pub cue_blocks_lem : (rs : List RegionContents) (c : CueContents) → CueWritable rs c → Block (cue_lines rs c)
unfolding cue_lines
cue_blocks_lem rs c f =
    cue-block c.id (written_timing rs c) c.text f.line f.plain (timing_line_lem rs c f.settable) (timing_arrow rs c) f.text

-- what holds of the file that is written of lists with these contents
pub record Reads (c : Contents) : Type 0 where
  pub plain : Plain (written c)
  pub signature : has_signature (written c) ≡ true
  pub within : any_over (items (written c)) ≡ false
  pub same : contents (lists (written c)) ≡ c

module _ (c : Contents) (styles : All (λ t. unbroken t ≡ true) c.styles) (regions : All Regional c.regions) (cues : All (CueWritable c.regions) c.cues) where
  abbrev one : List (List (List ℕ))
  one = map style_lines c.styles

  abbrev two : List (List (List ℕ))
  two = map region_lines c.regions

  abbrev three : List (List (List ℕ))
  three = map (cue_lines c.regions) c.cues

  all_blocks : All Block (one ++ two ++ three)
  all_blocks =
      Standing.all_append Block (one ++ two) three
      (Standing.all_append Block one two
      (all_map (λ t. unbroken t ≡ true) Block style_lines style-block c.styles styles)
      (all_map Regional Block region_lines region_lines-block c.regions regions))
      (all_map (CueWritable c.regions) Block (cue_lines c.regions) (cue_blocks_lem c.regions) c.cues cues)

  found : map bytes_of (blocks (file_of (one ++ two ++ three))) ≡ map bytes_of (map (lines_at 0 0) (one ++ two ++ three))
  found = blocks-file (one ++ two ++ three) all_blocks ∙ sym (placed_bytes (one ++ two ++ three))

  abbrev all : List Item
  all = given false (one ++ two ++ three)

  in_order : all ≡ given false (one ++ (two ++ three))
  in_order = ap (given false) (append_assoc one two three)

  first : Adds all (given false (two ++ three)) c.styles []
  first = rw in_order (styles_add c.styles (two ++ three) styles)

  second : Adds (given false (two ++ three)) (given false three) [] c.regions
  second = regions_add c.regions three regions

  no_more : (listed (given false three)).regions ≡ []
  no_more = (cues_give c.regions (map valued c.regions) false c.cues (ids_valued c.regions) cues).regions

  regions_back : map region_contents (listed all).regions ≡ c.regions
  regions_back = first.regions ∙ second.regions ∙ ap (λ r. c.regions ++ map region_contents r) no_more ∙ append-nil c.regions

  names_back : ids (listed all).regions ≡ map (λ r. r.id) c.regions
  names_back = ids-contents (listed all).regions ∙ ap (map (λ r. r.id)) regions_back

  third : Gives (listed all).regions (given false three) c.cues
  third = cues_give c.regions (listed all).regions false c.cues names_back cues

  styles_back : map (λ t. t.bytes) (listed all).styles ≡ c.styles
  styles_back =
      first.styles
      ∙ ap (λ r. c.styles ++ r) (second.styles ∙ ap (map (λ t. t.bytes)) third.styles)
      ∙ append-nil c.styles

  cues_back : map (cue_contents (listed all).regions) (listed all).cues ≡ c.cues
  cues_back = ap (map (cue_contents (listed all).regions)) (first.cues ∙ second.cues) ∙ third.cues

  contents_back : contents (listed all) ≡ c
  unfolding contents
  contents_back = rw (styles_back, regions_back, cues_back)

  pub read_back : Plain (written c) → Reads c
  unfolding written file_lines lists items
  read_back plain =
      record {
        plain = plain;
        signature = signature-file (one ++ two ++ three);
        within =
            over-same false (blocks (file_of (one ++ two ++ three))) (map (lines_at 0 0) (one ++ two ++ three)) found
            ∙ first.over
            ∙ second.over
            ∙ third.over;
        same = contents-same false (blocks (file_of (one ++ two ++ three))) (map (lines_at 0 0) (one ++ two ++ three)) found ∙ contents_back;
      }

unfailing : (list i : ℕ) (o : Option ℕ) (later : Option (List ℕ)) → or_else o list i later ≡ None → (o ≡ None) × (later ≡ None)
unfolding or_else
unfailing list i None later e = (refl, e)
unfailing list i (Some t) later e = let z : ◌≡◌ {A = ℕ} 0 1 = cc in absurd (omega arith)

-- rows that no test refuses
none_first :
    (list : ℕ) (fails : List ℕ → Option ℕ) (i : ℕ) (ws : List (List ℕ)) → first_in list fails i ws ≡ None → All (λ w. fails w ≡ None) ws
unfolding first_in
none_first list fails i [] e = tt
none_first list fails i (w ∷ ws) e =
    let h = unfailing list i (fails w) (first_in list fails (i + 1) ws) e in (h.0, none_first list fails (i + 1) ws h.1)

-- an answer that accepts was refused by no test
pub accepts : (o : Option (List ℕ)) (answer : Answer) (vs : List ℕ) → unless_failing o answer ≡ accepted vs → (o ≡ None) × (answer ≡ accepted vs)
unfolding unless_failing
accepts None answer vs e = (refl, e)
accepts (Some us) answer vs e = let z : ◌≡◌ {A = ℕ} 0 1 = cc in absurd (omega arith)

-- a style that passes is whole
style-passes : (s w : List ℕ) → style_fails s w ≡ None → unbroken (style_of_row s w) ≡ true
unfolding style_fails
style-passes s w e = (none-fails 1 (style_test1 s (style_entry w) ∷ unbroken (style_of_row s w) ∷ []) e).1.0

each : {A : Type 0} (P Q : A → Type 0) → ((x : A) → P x → Q x) → (xs : List A) → All P xs → All Q xs
each P Q f [] h = tt
each P Q f (x ∷ xs) h = (f x h.0, each P Q f xs h.1)

style_test1_lem : (s w : List ℕ) → style_fails s w ≡ None → style_test1 s (style_entry w) ≡ true
unfolding style_fails
style_test1_lem s w e = (none-fails 1 (style_test1 s (style_entry w) ∷ unbroken (style_of_row s w) ∷ []) e).0

region_test1_lem : (s w : List ℕ) → region_fails s w ≡ None → region_test1 s w ≡ true
unfolding region_fails
region_test1_lem s w e = (none-fails 1 (region_test1 s w ∷ region_tests (region_of_row s w)) e).0

cue_test1_lem : (s : List ℕ) (rows : List (List ℕ)) (w : List ℕ) → cue_fails s rows w ≡ None → cue_test1 s w ≡ true
unfolding cue_fails
cue_test1_lem s rows w e =
    let c = cue_of_row s w in
    (none-fails 1 (cue_test1 s w ∷ cue_tests c ++ cue_test6 (names_of s rows) c.region ∷ []) e).0

-- writing any writable lists, then reading, gives those lists back
pub round_trip :
    (s : List ℕ) (styles regions cues : List (List ℕ)) (room : ℕ) (vs : List ℕ)
    → writing s styles regions cues room ≡ accepted vs
    → Reads (contents_of_rows s styles regions cues)
unfolding writing contents_of_rows
round_trip s styles regions cues room vs e =
    let rest = accepts (first_in 0 (style_fails s) 0 styles) _ vs e in
    let more = accepts (first_in 1 (region_fails s) 0 regions) _ vs rest.1 in
    let last = accepts (first_in 2 (cue_fails s regions) 0 cues) _ vs more.1 in
    let a = none_first 0 (style_fails s) 0 styles rest.0 in
    let b = none_first 1 (region_fails s) 0 regions more.0 in
    let d = none_first 2 (cue_fails s regions) 0 cues last.0 in
    let texts = all_map (λ w. style_fails s w ≡ None) (λ t. unbroken t ≡ true) (style_of_row s) (style-passes s) styles a in
    let known = all_map (λ w. region_fails s w ≡ None) Regional (region_of_row s) (region-passes s) regions b in
    let known-cues =
    all_map (λ w. cue_fails s regions w ≡ None) (CueWritable (map (region_of_row s) regions)) (cue_of_row s)
    (λ w q. cue_writable s regions w q b) cues d in
    let plain =
    rows-plain s styles regions cues
    (each (λ w. style_fails s w ≡ None) (λ w. style_test1 s (style_entry w) ≡ true) (style_test1_lem s) styles a)
    (each (λ w. region_fails s w ≡ None) (λ w. region_test1 s w ≡ true) (region_test1_lem s) regions b)
    (each (λ w. cue_fails s regions w ≡ None) (λ w. cue_test1 s w ≡ true) (cue_test1_lem s regions) cues d) in
    let c = contents_of_rows s styles regions cues in
    read_back c texts known known-cues (plain-written c plain)
