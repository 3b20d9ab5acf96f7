-- The uses that a table brings, as bytes, are those of the text, each with its weight. Assumes nothing.
use mathlib.Core.Path.{◌≡◌, refl}
use mathlib.Core.List.{List, [], ◌∷◌, append-nil}
use Rattle.wire.specs.Numbers.{Bytes}
use Rattle.records.specs.Record.{Records, encode}
use Rattle.places.proofs.Weighed.{weighed_ahead}
use Rattle.pairs.specs.Pairs.{Pair}
use Rattle.pairs.specs.Stored.{Stored}
use Rattle.pairs.specs.Means.{bytes_of_all}
use Rattle.pairs.proofs.Says.{Declares, use_decls}
use Rattle.rewriting.specs.Imports.{weighed_uses}

pub declares-weighed : (z : Bytes) (us : List Stored) (c : Records) → Declares us c → weighed_uses z us ≡ weighed_ahead z c
unfolding encode use_decls weighed_uses weighed_ahead
declares-weighed z us c d = rw (d.decls, d.bytes) (all d.pairs)
  where
    all : (ps : List Pair) → weighed_uses z (bytes_of_all ps) ≡ weighed_ahead z (use_decls ps)
    all [] = refl
    all (p ∷ ps) = rw (all ps) (simp append-nil)
