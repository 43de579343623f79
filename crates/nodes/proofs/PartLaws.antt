-- The part between a name and an annotation of a token that was found in a text: it stands for the classes.
use Prim.Native.Nat.{ℕ, ◌+◌, ◌-◌, ◌≤◌}
use mathlib.Core.Path.{◌≡◌, sym}
use mathlib.Core.Bool.{true}
use mathlib.Core.List.{List}
use native.Mathlib.Omega.{arith}
use lib.Dec.{ltb}
use lib.ListN.{length, get_or}
use borrow.Author.Tests.{ltb-true, ltb-false}
use Rattle.format.specs.Texts.{bytes_at}
use Rattle.format.specs.CueText.{collapsed}
use Rattle.format.specs.Trees.{class_string}
use Rattle.format.specs.declared.settings.Span.{Span}
use Rattle.laws.proofs.Tests.{by-test}
use Rattle.tokenizer.specs.Tags.{classes_of, span_bytes, PartsIn, StartIn}
use Rattle.tokenizer.specs.declared.Token.{Token}
use Rattle.tokenizer.proofs.Spans.{part-first}
use Rattle.strings.specs.Stores.{separates, one}
use Rattle.strings.proofs.TextLaws.{classes_of_lem, classes_of-none}

module _ (s : List ℕ) (t : Token) (h : PartsIn s 0 (length s) t) (n q r : Span) (e : t ≡ Token.Start n q r) where
  start_in : StartIn s 0 (length s) n q r
  start_in = rw e at h

  classes_in : q.to ≤ length s
  classes_in = let k = start_in in omega (arith, k.beyond, k.annotated, k.last)

  -- classes parted by full stops, empty ones left out, are the part with its full stops collapsed
  pub class_part : collapsed (separates true) (one true) (span_bytes s q) ≡ class_string (classes_of (span_bytes s q))
  unfolding bytes_at
  class_part =
      by-test (ltb q.from q.to)
      (λ y.
      let l = ltb-true q.from q.to y in
      let first = part-first s q.from q.to l classes_in in
      rw first (sym (classes_of_lem (get_or s q.from 0) (bytes_at s (q.from + 1) q.to) (start_in.stop l))))
      (λ n.
      let z : q.to - q.from ≡ 0 = omega (arith, ltb-false q.from q.to n) in
      rw z (sym classes_of-none))
