-- The second pass: what is stored token by token is the defined nodes' rows and strings, and the current node's row names its parent.
use Prim.Native.Nat.{ℕ, zero, suc, ◌+◌, ◌-◌, ◌≤◌, ◌<◌}
use mathlib.Core.Path.{◌≡◌, refl, sym, ap, ◌∙◌}
use mathlib.Core.Bool.{false, cond, ◌&&◌, ◌||◌, false≢true}
use mathlib.Core.List.{List, [], ◌∷◌, ◌++◌, append-nil, append_assoc}
use Rattle.std.specs.Prelude.{Option, None, Some}
use native.Mathlib.Numerals.{add-one}
use native.Mathlib.Omega.{arith}
use lib.Dec.{eqb, ltb}
use lib.ListN.{length, get_or, drop, set, length-append, length-drop, drop_of_length-le, get_or-append}
use lib.Seq.{drop-cons, set_at, get_or-append_seam, drop-drop, take-append_seam, drop-append-add}
use borrow.Author.Tests.{eq-eqb, ne_eqb, le-ltb}
use Rattle.format.specs.Limits.{max_text}
use Rattle.format.specs.Answers.{placed}
use Rattle.format.specs.Texts.{is_empty}
use Rattle.format.specs.CueText.{Token, visit_end, cue_tokens_from, cue_tokens}
use Rattle.format.specs.Trees.{Node, kind_word, is_kind, Open, parent_of, kind_of, leaving, made, path_after, nodes_from, nodes, token_over, any_time_over, node_strings, place_words, parent_word, node_words, node_rows, node_of_row}
use Rattle.format.specs.declared.kinds.NodeKind.{NodeKind}
use Rattle.laws.proofs.Tests.{by-test, or_first, or_second}
use Rattle.strings.specs.Stores.{stored, Stores}
use Rattle.strings.proofs.StoreLaws.{stored-within, ◌then◌}
use Rattle.nodes.specs.Tokens.{Gift, made_is, token_classes, token_value, left_kind}
use Rattle.nodes.specs.declared.inner.tokens.Made.{Made}
use Rattle.node_rows.specs.Rows.{no_row, node_named, up_in, kind_in, left_of, left_in, node_below, Puts, Turned, Fits}
use Rattle.node_rows.specs.declared.inner.filling.Filled.{Filled}
use Rattle.node_laws.proofs.TreeLaws.{leaving_keeps, Gives, ignored, above, attaches, gives, node_strings_append}
use Rattle.node_laws.proofs.RoomLaws.{room_bound}
use Rattle.node_laws.proofs.RowLaws.{parent_named_lem, named-word, length-rows}
use Rattle.nodes.proofs.KindLaws.{kind_numbered_lem}

-- a node's strings and its row, put one after the other
pub puts_node :
    {t : Token} {made : Made} {m : Filled} {room r room' row : List ℕ} {rows : List (List ℕ)} {between to current : ℕ}
    → Stores (token_classes t) m.used room between r
    → Stores (token_value made.kind t) between r to room'
    → ((classes value : List ℕ)
    → between ≡ m.used + length classes
    → to ≡ between + length value
    → row ≡ node_words m.used (node_below m.current made classes value))
    → current ≡ cond (ltb (kind_word made.kind) 8) (m.count + 1) m.current
    → Puts t made m room rows (record { count = m.count + 1; used = to; current = current }) room' (set rows m.count row)
puts_node {t} {made} {m = m} {rows = rows} a b e f =
    let both = a then b in
    record {
      count = refl;
      used = b.place ∙ ap (λ n. n + length (token_value made.kind t)) a.place;
      current = f;
      strings = both.holds;
      row = ap (set rows m.count) (e (token_classes t) (token_value made.kind t) a.place b.place);
    }

-- the words of a place and of a string that stands there
span_place : (place : ℕ) (x : List ℕ) → cond (eqb place (place + length x)) 0 place ∷ cond (eqb place (place + length x)) 0 (place + length x) ∷ [] ≡ place_words place x
unfolding place_words
span_place place [] = let e : place + 0 ≡ place = omega arith in rw (eq-eqb place (place + 0) (sym e)) refl
span_place place (b ∷ x) = rw (ne_eqb place (place + suc (length x)) (λ e. absurd (omega arith))) refl

-- the row of a node by the places of its strings
pub row_is :
    (parent : ℕ) (made : Made) (from between to : ℕ) (classes value : List ℕ)
    → between ≡ from + length classes
    → to ≡ between + length value
    → parent
    ∷ kind_word made.kind
    ∷ cond (eqb from between) 0 from
    ∷ cond (eqb from between) 0 between
    ∷ cond (eqb between to) 0 between
    ∷ cond (eqb between to) 0 to
    ∷ made.time
    ∷ []
    ≡ node_words from (node_below parent made classes value)
unfolding node_words
row_is parent made from between to classes value e f =
    rw (named-word parent, ← (span_place from classes), ← (span_place (from + length classes) value), f, e) refl

-- the node with an index, where there is one
abbrev no_node : Node
no_node = record { parent = None; kind = NodeKind.String; classes = []; value = []; time = 0 }

-- its row says its parent and its kind
row_at :
    (place : ℕ) (ns : List Node) (rest : List (List ℕ)) (i : ℕ)
    → i < length ns
    → ((node_of_row [] (get_or (node_rows place ns ++ rest) i [])).parent ≡ (get_or ns i no_node).parent)
    × ((node_of_row [] (get_or (node_rows place ns ++ rest) i [])).kind ≡ (get_or ns i no_node).kind)
unfolding node_rows node_words node_of_row
row_at place [] rest i h = absurd (omega arith)
row_at place (n ∷ ns) rest zero h = (parent_named_lem n.parent, kind_numbered_lem n.kind)
row_at place (n ∷ ns) rest (suc i) h = row_at (place + length n.classes + length n.value) ns rest i (omega arith)

-- each open node has its row, which names the open node below it as its parent
pub data Linked (ns : List Node) : List Open → Type 0 where
  at_root : Linked ns []
  linked :
      {o : Open} {path : List Open}
      → o.index < length ns
      → (get_or ns o.index no_node).parent ≡ parent_of path
      → (get_or ns o.index no_node).kind ≡ o.kind
      → Linked ns path
      → Linked ns (o ∷ path)

linked_more : (ns : List Node) (n : Node) {path : List Open} → Linked ns path → Linked (ns ++ n ∷ []) path
linked_more ns n at_root = at_root
linked_more ns n (linked {o = o} {path = path} h p k l) =
    let same = get_or-append ns (n ∷ []) no_node o.index h in
    linked {o = o} {path = path} (omega (arith, length-append ns (n ∷ []))) (rw same p) (rw same k) (linked_more ns n l)

drop_linked : (ns : List Node) (path : List Open) → Linked ns path → Linked ns (drop 1 path)
drop_linked ns [] at_root = at_root
drop_linked ns (o ∷ path) (linked h p k l) = l

-- the current node's row
module _ (ns : List Node) (rest : List (List ℕ)) where
  abbrev rows : List (List ℕ)
  rows = node_rows 0 ns ++ rest

  has-row : (i : ℕ) → i < length ns → no_row rows (suc i) ≡ false
  unfolding no_row
  has-row i h = rw (ne_eqb (suc i) 0 (λ e. absurd (omega arith))) (le-ltb (length rows) (suc i) (omega (arith, length-append (node_rows 0 ns) rest, length-rows 0 ns)))

  up_is : {path : List Open} → Linked ns path → up_in rows (parent_word (parent_of path)) ≡ parent_word (parent_of (drop 1 path))
  unfolding up_in node_named parent_word parent_of no_row
  up_is at_root = refl
  up_is (linked {o = o} {path = path} h p k l) =
      let e : suc o.index - 1 ≡ o.index = omega arith in
      rw (has-row o.index h, e) (ap parent_word ((row_at 0 ns rest o.index h).0 ∙ p))

  kind_is_lem : {path : List Open} → Linked ns path → kind_in rows (parent_word (parent_of path)) ≡ kind_of path
  unfolding kind_in node_named parent_word parent_of kind_of no_row
  kind_is_lem at_root = refl
  kind_is_lem (linked {o = o} h p k l) =
      let e : suc o.index - 1 ≡ o.index = omega arith in
      rw (has-row o.index h, e) (ap Some ((row_at 0 ns rest o.index h).1 ∙ k))

  -- the current node after an end tag
  left_is : (o : Option NodeKind) (path : List Open) → Linked ns path → left_in rows (parent_word (parent_of path)) o ≡ parent_word (parent_of (leaving o path))
  unfolding left_in left_of leaving kind_of
  left_is o [] l = rw (kind_is_lem l) refl
  left_is o (p ∷ path) l =
      rw (kind_is_lem l, up_is l, up_is (drop_linked ns (p ∷ path) l))
      (by-test (is_kind o p.kind)
      (λ y. rw y refl)
      (λ n. by-test (is_kind o NodeKind.Ruby && is_kind (Some p.kind) NodeKind.RubyText) (λ y. rw (n, y) refl) (λ m. rw (n, m) refl)))

-- rows and strings of nodes, and of one more
rows_more : (place : ℕ) (ns : List Node) (n : Node) → node_rows place (ns ++ n ∷ []) ≡ node_rows place ns ++ node_words (place + length (node_strings ns)) n ∷ []
unfolding node_rows node_strings
rows_more place [] n = let e : place + 0 ≡ place = omega arith in rw e refl
rows_more place (m ∷ ns) n =
    let next = place + length m.classes + length m.value in
    let e : next + length (node_strings ns) ≡ place + length (m.classes ++ m.value ++ node_strings ns) =
    omega (arith, length-append (m.classes ++ m.value) (node_strings ns), length-append m.classes m.value) in
    ap (λ r. node_words place m ∷ r) (rows_more next ns n ∙ rw e refl)

table_more :
    (rows₀ : List (List ℕ)) (ns : List Node) (n : Node)
    → length ns < length rows₀
    → set (node_rows 0 ns ++ drop (length ns) rows₀) (length ns) (node_words (length (node_strings ns)) n)
    ≡ node_rows 0 (ns ++ n ∷ []) ++ drop (length (ns ++ n ∷ [])) rows₀
table_more rows₀ ns n h =
    let i = length ns in
    let a = node_rows 0 ns in
    let w = node_words (length (node_strings ns)) n in
    let put : set (a ++ drop i rows₀) i w ≡ a ++ w ∷ drop (i + 1) rows₀ =
    rw (add-one i, drop-cons rows₀ i [] h) (set_at a (get_or rows₀ i []) (drop (suc i) rows₀) w i (length-rows 0 ns)) in
    let e : 0 + length (node_strings ns) ≡ length (node_strings ns) = omega arith in
    put ∙ rw (rows_more 0 ns n, e, length-append ns (n ∷ [])) (sym (append_assoc a (w ∷ []) (drop (i + 1) rows₀)))

room-more :
    (room₀ y x : List ℕ)
    → length y + length x ≤ length room₀
    → stored (length y) x (y ++ drop (length y) room₀) ≡ y ++ x ++ drop (length (y ++ x)) room₀
room-more room₀ y x h =
    let d = drop (length y) room₀ in
    let fits : length y + length x ≤ length (y ++ d) = omega (arith, length-append y d, length-drop (length y) room₀) in
    let beyond : drop (length y + length x) (y ++ d) ≡ drop (length (y ++ x)) room₀ =
    drop-append-add y d (length x) ∙ drop-drop (length x) (length y) room₀ ∙ ap (λ k. drop k room₀) (sym (length-append y x)) in
    stored-within (length y) x (y ++ d) fits ∙ rw (take-append_seam y d, beyond)

-- how far the second pass is: the nodes that are done, and those that are open
pub record Filling (s room₀ : List ℕ) (rows₀ : List (List ℕ)) (at : ℕ) (m : Filled) (room : List ℕ) (rows : List (List ℕ)) : Type 0 where
  pub done : List Node
  pub path : List Open
  pub whole : nodes s ≡ done ++ nodes_from path (length done) (cue_tokens (drop at s))
  pub count : m.count ≡ length done
  pub used : m.used ≡ length (node_strings done)
  pub current : m.current ≡ parent_word (parent_of path)
  pub links : Linked done path
  pub table : rows ≡ node_rows 0 done ++ drop (length done) rows₀
  pub strings : room ≡ node_strings done ++ drop (length (node_strings done)) room₀
  pub over : any_time_over (cue_tokens (drop at s)) ≡ false
  pub within : at ≤ length s

module _ (s room₀ : List ℕ) (rows₀ : List (List ℕ)) where
  pub filling_starts : any_time_over (cue_tokens s) ≡ false → Filling s room₀ rows₀ 0 (record { count = 0; used = 0; current = 0 }) room₀ rows₀
  unfolding nodes node_rows node_strings parent_word parent_of
  filling_starts o =
      record {
        done = [];
        path = [];
        whole = refl;
        count = refl;
        used = refl;
        current = refl;
        links = at_root;
        table = refl;
        strings = refl;
        over = o;
        within = omega arith;
      }

  module _ {at : ℕ} {m : Filled} {room : List ℕ} {rows : List (List ℕ)} (f : Filling s room₀ rows₀ at m room rows) where
    -- at the text's end nothing is left
    nothing_left : length s ≤ at → nodes s ≡ f.done
    unfolding cue_tokens cue_tokens_from visit_end is_empty nodes_from
    nothing_left h =
        let none = drop_of_length-le s h in
        f.whole ∙ rw none (append-nil f.done)

    pub filling_room : length s ≤ at → room ≡ placed (node_strings (nodes s)) room₀
    unfolding placed
    filling_room h = rw (nothing_left h) f.strings

    pub filling_table : length s ≤ at → rows ≡ placed (node_rows 0 (nodes s)) rows₀
    unfolding placed
    filling_table h = let e = nothing_left h in rw (e, length-rows 0 f.done) f.table

    -- the current node's kind
    pub filling_kind : kind_in rows m.current ≡ kind_of f.path
    filling_kind = rw (f.table, f.current) (kind_is_lem f.done (drop (length f.done) rows₀) f.links)

    module _ (tok : Token) (next : ℕ) (e : cue_tokens (drop at s) ≡ tok ∷ cue_tokens (drop next s)) (l : next ≤ length s) where
      abbrev i : ℕ
      i = length f.done

      abbrev beyond : List Open
      beyond = path_after f.path i tok

      whole_goes : nodes s ≡ f.done ++ (made f.path tok ++ nodes_from beyond (i + length (made f.path tok)) (cue_tokens (drop next s)))
      unfolding nodes_from
      whole_goes = f.whole ∙ ap (λ ts. f.done ++ nodes_from f.path i ts) e

      over-both : token_over tok || any_time_over (cue_tokens (drop next s)) ≡ false
      unfolding any_time_over
      over-both = sym (ap any_time_over e) ∙ f.over

      pub not-over : token_over tok ≡ false
      not-over = or_first (token_over tok) (any_time_over (cue_tokens (drop next s))) over-both

      still_within : any_time_over (cue_tokens (drop next s)) ≡ false
      still_within = or_second (token_over tok) (any_time_over (cue_tokens (drop next s))) over-both

      -- a token that gives no node
      pub filling_left :
          made f.path tok ≡ []
          → beyond ≡ leaving (left_kind tok) f.path
          → Filling s room₀ rows₀ next (record { count = m.count; used = m.used; current = left_in rows m.current (left_kind tok) }) room rows
      filling_left g p =
          let keep : i + 0 ≡ i = omega arith in
          record {
            done = f.done;
            path = leaving (left_kind tok) f.path;
            whole = rw (g, p, keep) at whole_goes;
            count = f.count;
            used = f.used;
            current =
                rw (f.table, f.current) (left_is f.done (drop i rows₀) (left_kind tok) f.path f.links);
            links = leaving_keeps (Linked f.done) (drop_linked f.done) (left_kind tok) f.path f.links;
            table = f.table;
            strings = f.strings;
            over = still_within;
            within = l;
          }

      -- a token that gives a node
      module _ (k : NodeKind) (time : ℕ)
          (g :
          made f.path tok
          ≡ record { parent = parent_of f.path; kind = k; classes = token_classes tok; value = token_value k tok; time = time } ∷ [])
          (p : beyond ≡ cond (ltb (kind_word k) 8) (record { index = i; kind = k } ∷ f.path) f.path) where
        abbrev n : Node
        n = record { parent = parent_of f.path; kind = k; classes = token_classes tok; value = token_value k tok; time = time }

        abbrev done' : List Node
        done' = f.done ++ n ∷ []

        abbrev path' : List Open
        path' = cond (ltb (kind_word k) 8) (record { index = i; kind = k } ∷ f.path) f.path

        abbrev x : List ℕ
        x = token_classes tok ++ token_value k tok

        long : length done' ≡ i + 1
        long = length-append f.done (n ∷ [])

        strings_are : node_strings done' ≡ node_strings f.done ++ x
        unfolding node_strings
        strings_are = node_strings_append f.done (n ∷ []) ∙ rw (append-nil x)

        bytes : length (node_strings done') ≡ length (node_strings f.done) + (length (token_classes tok) + length (token_value k tok))
        bytes =
            ap length strings_are
            ∙ omega (arith, length-append (node_strings f.done) x, length-append (token_classes tok) (token_value k tok))

        whole' : nodes s ≡ done' ++ nodes_from path' (length done') (cue_tokens (drop next s))
        whole' =
            whole_goes
            ∙ rw (g, p, long) (sym (append_assoc f.done (n ∷ []) (nodes_from path' (i + 1) (cue_tokens (drop next s)))))

        -- the table and the room have place for it
        pub more_rows : i < length (nodes s)
        more_rows =
            omega (arith, ap length whole', length-append done' (nodes_from path' (length done') (cue_tokens (drop next s))), long)

        more_bytes : length (node_strings done') ≤ length (node_strings (nodes s))
        more_bytes =
            let rest = nodes_from path' (length done') (cue_tokens (drop next s)) in
            omega (arith, ap (λ ns. length (node_strings ns)) whole', ap length (node_strings_append done' rest), length-append (node_strings done') (node_strings rest))

        pub classes_fit : length s ≤ max_text → m.used + length (token_classes tok) ≤ max_text
        classes_fit h = omega (arith, more_bytes, bytes, f.used, room_bound s)

        row_fits : length (nodes s) ≤ length rows₀ → i < length rows
        row_fits h =
            rw f.table
            (omega (
              arith,
              more_rows,
              length-append (node_rows 0 f.done) (drop i rows₀),
              length-rows 0 f.done,
              length-drop i rows₀,
            ))

        pub count_fits : length (nodes s) ≤ length rows₀ → m.count < length rows
        count_fits h = rw f.count (row_fits h)

        module _ (r : Filled) (room' : List ℕ) (rows' : List (List ℕ)) (q : Puts tok (record { kind = k; time = time }) m room rows r room' rows')
            (lr : length (nodes s) ≤ length rows₀) (ls : length (node_strings (nodes s)) ≤ length room₀) where
          current' : r.current ≡ parent_word (parent_of path')
          unfolding parent_word parent_of
          current' =
              q.current
              ∙ by-test (ltb (kind_word k) 8)
              (λ y. rw (y, f.count) (add-one i))
              (λ z. rw z f.current)

          links' : Linked done' path'
          links' =
              let last : get_or done' i no_node ≡ n = get_or-append_seam f.done n [] no_node in
              by-test (ltb (kind_word k) 8)
              (λ y.
              rw y
              (linked {o = record { index = i; kind = k }} (omega (arith, long)) (ap (λ m. m.parent) last) (ap (λ m. m.kind) last) (linked_more f.done n f.links)))
              (λ z. rw z (linked_more f.done n f.links))

          row' : node_words m.used (node_below m.current (record { kind = k; time = time }) (token_classes tok) (token_value k tok)) ≡ node_words (length (node_strings f.done)) n
          row' = rw (f.current, f.used, parent_named_lem (parent_of f.path)) refl

          table' : rows' ≡ node_rows 0 done' ++ drop (length done') rows₀
          table' =
              q.row ∙ rw (row', f.table, f.count) (table_more rows₀ f.done n (omega (arith, more_rows)))

          strings' : room' ≡ node_strings done' ++ drop (length (node_strings done')) room₀
          strings' =
              let fits : length (node_strings f.done) + length x ≤ length room₀ =
              omega (arith, more_bytes, ap length strings_are, length-append (node_strings f.done) x) in
              q.strings ∙ rw (f.strings, f.used, strings_are) (room-more room₀ (node_strings f.done) x fits)

          pub filling_put : Filling s room₀ rows₀ next r room' rows'
          filling_put =
              record {
                done = done';
                path = path';
                whole = whole';
                count = q.count ∙ rw (f.count, long);
                used = omega (arith, q.used, f.used, bytes);
                current = current';
                links = links';
                table = table';
                strings = strings';
                over = still_within;
                within = l;
              }

      -- there is room for what the token gives, and when it is put the pass is one token further
      module _ (lr : length (nodes s) ≤ length rows₀) (ls : length (node_strings (nodes s)) ≤ length room₀) where
        fits_given : {md : Gift} → length s ≤ max_text → Gives f.path i tok md → Fits md tok m rows
        fits_given h (ignored g o p) = tt
        fits_given h (above y) = tt
        fits_given h (attaches {k = k} {time = time} g o p) = (classes_fit k time g p h, count_fits k time g p lr)

        pub filling_fits : length s ≤ max_text → Fits (made_is (kind_in rows m.current) tok) tok m rows
        filling_fits h = rw filling_kind (fits_given h (gives f.path i tok))

        module _ (r : Filled) (room' : List ℕ) (rows' : List (List ℕ)) where
          turned : {md : Gift} → Gives f.path i tok md → Turned md tok m room rows r room' rows' → Filling s room₀ rows₀ next r room' rows'
          turned (ignored g o p) t = rw (t.0, t.1, t.2) (filling_left g p)
          turned (above y) t = absurd (false≢true (sym not-over ∙ y))
          turned (attaches {k = k} {time = time} g o p) t = filling_put k time g p r room' rows' t lr ls

          pub filling_turned :
              Turned (made_is (kind_in rows m.current) tok) tok m room rows r room' rows' → Filling s room₀ rows₀ next r room' rows'
          filling_turned t = turned (gives f.path i tok) (rw filling_kind at t)
