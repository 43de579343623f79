use Prim.Native.Nat.{◌+◌, ◌%◌, ◌<◌}
use mathlib.Core.Path.{sym, ◌∙◌}
use native.Mathlib.Omega.{arith}
use lib.ListN.{length}
use borrow.Author.Tests.{not-true, not-false}
use Rattle.format.specs.Writable.{names_of}
use Rattle.lookup.specs.Known.{KnownLast}
use Rattle.lookup.proofs.NameLaws.{no_region_lem}
use Rattle.lookup.proofs.KnownLaws.{every_set, last_new}
use Rattle.lookup.proofs.inner.is_known_last.Goals as goal

-- `lookup::inner::is_known_last` meets its contract.
pub returns-then-regions-index : goal.returns-then-regions-index
returns-then-regions-index c =
    let a = c.args in
    record {
      answer = no_region_lem a.text.now a.regions.now a.index c.if-regions-index.true;
      known = c.requires.all_last;
    }

pub returns-then-known-place : goal.returns-then-known-place
returns-then-known-place c =
    let a = c.args in
    let inside : a.index % 256 < length a.known.now = omega (arith, c.requires.known_len) in
    record {
      answer = sym (c.requires.all_last (a.index % 256) inside a.index c.if-known-place.true);
      known = c.requires.all_last;
    }

pub returns-then-not-is_last_of_its_name : goal.returns-then-not-is_last_of_its_name
returns-then-not-is_last_of_its_name c =
    record {
      answer = sym (not-true c.is_last_of_its_name.result c.if-not-is_last_of_its_name.true-raw) ∙ c.is_last_of_its_name.ensures;
      known = c.requires.all_last;
    }

pub returns : goal.returns
returns c =
    let a = c.args in
    let inside : a.index % 256 < length a.known.now = omega (arith, c.requires.known_len) in
    let names = names_of a.text.now a.regions.now in
    let is = sym (not-false c.is_last_of_its_name.result c.if-not-is_last_of_its_name.false-raw) ∙ c.is_last_of_its_name.ensures in
    record {
      answer = is;
      known = every_set (KnownLast names) 0 a.known.now (a.index % 256) (a.index + 1) inside c.requires.all_last (last_new names a.index (sym is));
    }
