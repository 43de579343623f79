-- Lines of a file with the lines of a text in their place, twice: at two places the order does not matter, at one the last counts.
use Prim.Native.Nat.{ℕ, ◌+◌, ◌-◌, ◌≤◌, ◌<◌}
use mathlib.Core.Path.{◌≡◌, sym, ap, ◌∙◌}
use mathlib.Core.List.{List, [], ◌++◌, append_assoc}
use native.Mathlib.Omega.{arith}
use lib.ListN.{length, get_or, take, drop, length-append, length-drop, take-append-drop}
use lib.Seq.{length-take-le, take_at, drop_at, take-append_seam, get_or-append-add, get_or-take}
use Rattle.format.specs.Lines.{split}
use Rattle.format.specs.Replacing.{RawLine, empty_line}
use Rattle.laws.proofs.Lines.{splits}
use Rattle.replaced.proofs.RawLines.{form_lines, form_length_lem, form_ending, spliced}

-- what ends the last of some lines
abbrev last_ending : List RawLine → List ℕ
last_ending ls = (get_or ls (length ls - 1) (empty_line [])).ending

-- an element of the first part
pub get_d_front : {A : Type 0} (xs ys : List A) (k : ℕ) (d : A) → k < length xs → get_or (xs ++ ys) k d ≡ get_or xs k d
get_d_front xs ys k d h = sym (get_or-take (length xs) (xs ++ ys) k d h) ∙ ap (λ r. get_or r k d) (take-append_seam xs ys)

-- a splice where the lines before, the old lines and the lines after are given
spliced_at :
    (before old after : List RawLine) (n c : ℕ) (form : List ℕ)
    → length before ≡ n
    → length old ≡ c
    → 0 < c
    → spliced n c form (before ++ (old ++ after)) ≡ before ++ (form_lines (last_ending old) form ++ after)
spliced_at before old after n c form e q some =
    let m : n + (c - 1) ≡ length before + (length old - 1) = omega (arith, e, q) in
    let line : get_or (before ++ (old ++ after)) (n + (c - 1)) (empty_line []) ≡ get_or old (length old - 1) (empty_line []) =
    rw m (get_or-append-add before (old ++ after) (length old - 1) (empty_line []) ∙ get_d_front old after (length old - 1) (empty_line []) (omega arith)) in
    let rest : drop (n + c) (before ++ (old ++ after)) ≡ after =
    rw (← append_assoc before old after) (drop_at (before ++ old) after (n + c) (omega (arith, length-append before old))) in
    rw (take_at before (old ++ after) n e, line, rest)

-- a text has a line
pub some_line : (form : List ℕ) → 0 < length (split form)
some_line form = omega (arith, ap length (splits form).is)

-- lines in three parts: those before the place n, the c lines there, and those after them
record Three (ls : List RawLine) (n c : ℕ) : Type 0 where
  before : List RawLine
  old : List RawLine
  after : List RawLine
  is : ls ≡ before ++ (old ++ after)
  size : length before ≡ n
  count : length old ≡ c

three : (ls : List RawLine) (n c : ℕ) → n + c ≤ length ls → Three ls n c
three ls n c h =
    record {
      before = take n ls;
      old = take c (drop n ls);
      after = drop c (drop n ls);
      is = sym (take-append-drop n ls) ∙ ap (λ r. take n ls ++ r) (sym (take-append-drop c (drop n ls)));
      size = length-take-le n ls (omega arith);
      count = length-take-le c (drop n ls) (omega (arith, length-drop n ls));
    }

-- two places: the lines of f go to the old lines at n, those of g to the old lines at m, which then stand at l
module _ (n c m d l : ℕ) (f g : List ℕ) (some : 0 < c) (more : 0 < d) (moved : l + c ≡ m + length (split f)) where
  module _ (before old between later after : List RawLine) (e : length before ≡ n) (q : length old ≡ c)
      (r : length (before ++ (old ++ between)) ≡ m) (z : length later ≡ d) where
    abbrev all : List RawLine
    all = before ++ (old ++ (between ++ (later ++ after)))

    abbrev first : List RawLine
    first = form_lines (last_ending old) f

    abbrev second : List RawLine
    second = form_lines (last_ending later) g

    first_one : spliced l d g (spliced n c f all) ≡ before ++ (first ++ (between ++ (second ++ after)))
    first_one =
        let k : length (before ++ (first ++ between)) ≡ l =
        let h = length-append before (old ++ between) in
        let i = length-append before (first ++ between) in
        omega (arith, h, i, length-append old between, length-append first between, form_length_lem (last_ending old) f, e, q, r) in
        let other : before ++ (first ++ (between ++ (later ++ after))) ≡ (before ++ (first ++ between)) ++ (later ++ after) = simp append_assoc in
        ap (spliced l d g) (spliced_at before old (between ++ (later ++ after)) n c f e q some ∙ other)
        ∙ spliced_at (before ++ (first ++ between)) later after l d g k z more
        ∙ simp append_assoc

    second-one : spliced n c f (spliced m d g all) ≡ before ++ (first ++ (between ++ (second ++ after)))
    second-one =
        let other : all ≡ (before ++ (old ++ between)) ++ (later ++ after) = simp append_assoc in
        let back : (before ++ (old ++ between)) ++ (second ++ after) ≡ before ++ (old ++ (between ++ (second ++ after))) = simp append_assoc in
        ap (λ ls. spliced n c f (spliced m d g ls)) other
        ∙ ap (spliced n c f) (spliced_at (before ++ (old ++ between)) later after m d g r z more ∙ back)
        ∙ spliced_at before old (between ++ (second ++ after)) n c f e q some

  either_of :
      (ls : List RawLine) (a : Three ls n c)
      → n + c ≤ m
      → Three a.after (m - (n + c)) d
      → spliced l d g (spliced n c f ls) ≡ spliced n c f (spliced m d g ls)
  either_of ls a apart b =
      let is : ls ≡ a.before ++ (a.old ++ (b.before ++ (b.old ++ b.after))) = a.is ∙ ap (λ r. a.before ++ (a.old ++ r)) b.is in
      let r : length (a.before ++ (a.old ++ b.before)) ≡ m =
      omega (arith, length-append a.before (a.old ++ b.before), length-append a.old b.before, a.size, a.count, b.size) in
      rw is
      (first_one a.before a.old b.before b.old b.after a.size a.count r b.count
      ∙ sym (second-one a.before a.old b.before b.old b.after a.size a.count r b.count))

  pub either_splice : (ls : List RawLine) → n + c ≤ m → m + d ≤ length ls → spliced l d g (spliced n c f ls) ≡ spliced n c f (spliced m d g ls)
  either_splice ls apart inside =
      let a = three ls n c (omega arith) in
      let rest : length a.after ≡ length ls - (n + c) =
      omega (arith, ap length a.is, length-append a.before (a.old ++ a.after), length-append a.old a.after, a.size, a.count) in
      either_of ls a apart (three a.after (m - (n + c)) d (omega arith))

-- one place: the second text stands where the first stood
module _ (n c : ℕ) (f g : List ℕ) (some : 0 < c) where
  twice_of : (ls : List RawLine) → Three ls n c → spliced n (length (split f)) g (spliced n c f ls) ≡ spliced n c g ls
  twice_of ls a =
      let end = last_ending a.old in
      let first = form_lines end f in
      let k : length first ≡ length (split f) = form_length_lem end f in
      let same : last_ending first ≡ end = ap (λ n. (get_or first (n - 1) (empty_line [])).ending) k ∙ form_ending end f in
      rw a.is
      (ap (spliced n (length (split f)) g) (spliced_at a.before a.old a.after n c f a.size a.count some)
      ∙ spliced_at a.before first a.after n (length (split f)) g a.size k (some_line f)
      ∙ ap (λ e. a.before ++ (form_lines e g ++ a.after)) same
      ∙ sym (spliced_at a.before a.old a.after n c g a.size a.count some))

  pub splice_twice : (ls : List RawLine) → n + c ≤ length ls → spliced n (length (split f)) g (spliced n c f ls) ≡ spliced n c g ls
  splice_twice ls inside = twice_of ls (three ls n c inside)
