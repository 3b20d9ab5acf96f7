-- How long a record's parts and the records of short names are, over any bytes. Assumes nothing.
use mathlib.Core.Path.{◌≡◌}
use mathlib.Core.List.{◌++◌}
use Prim.Native.Nat.{ℕ, zero, suc, ◌+◌, ◌*◌, ◌-◌, ◌≤◌, min}
use native.Mathlib.Nat.{zero-mul, suc-mul}
use native.Mathlib.Omega.{arith}
use lib.ListN.{length, drop, length-append, length-take, length-drop}
use Rattle.wire.specs.Numbers.{Bytes}
use Rattle.records.specs.Record.{record_bytes, length_of, content_of, rest_of}
use Rattle.records.proofs.Tree.{record-length}
use Rattle.rewriting.specs.Replaces.{name_in}
use Rattle.rewriting.specs.Shorts.{synonym_bytes, identifier_bytes}

pub synonyms-length : (name : Bytes) (w : ℕ) (r : Bytes) → length (synonym_bytes name w r) ≡ w * (18 + length name) + length r
unfolding synonym_bytes
synonyms-length name zero r = let m = zero-mul (18 + length name) in omega arith
synonyms-length name (suc w) r =
    let m = suc-mul w (18 + length name) in
    let i = synonyms-length name w r in
    let a = record-length 0x01 name in
    let b = record-length 0x2C (record_bytes 0x01 name) in
    let c = length-append (record_bytes 0x2C (record_bytes 0x01 name)) (synonym_bytes name w r) in
    let d = record-length 0x37 (record_bytes 0x2C (record_bytes 0x01 name) ++ synonym_bytes name w r) in
    omega arith

pub identifier-length : (name : Bytes) → length (identifier_bytes name) ≡ 12 + length name
unfolding identifier_bytes
identifier-length name =
    let a = record-length 0x01 name in
    let b = record-length 0x42 (record_bytes 0x01 name) in
    omega arith

-- a content lies six bytes in, and what follows a record at least four
pub content-inside : (s : Bytes) → length (content_of s) ≤ length s - 6
content-inside s =
    let t : length (content_of s) ≡ min (length_of s - 2) (length (drop 6 s)) = length-take (length_of s - 2) (drop 6 s) in
    let d = length-drop 6 s in
    omega arith

pub rest-inside : (s : Bytes) → length (rest_of s) ≤ length s - 4
rest-inside s = let d = length-drop (4 + length_of s) s in omega arith

-- the name of a path lies 22 bytes in
pub name-within : (r : Bytes) → length (name_in r) ≤ length r - 22
name-within r =
    let a = content-inside r in
    let b = content-inside (content_of r) in
    let c = rest-inside (content_of (content_of r)) in
    let d = content-inside (rest_of (content_of (content_of r))) in
    omega arith

pub name-inside : (r : Bytes) → length (name_in r) ≤ length r
name-inside r = let a = name-within r in omega arith
