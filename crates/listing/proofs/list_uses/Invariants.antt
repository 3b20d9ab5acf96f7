-- `listing::list_uses` meets its contract: use by use, by the laws of Uses. Assumes nothing.
use Rattle.listing.proofs.Uses.{Uses}
use Rattle.listing.proofs.list_uses.Given as goal

abbrev pub invariant-loop-j : goal.invariant-loop-j
invariant-loop-j l = Uses l.d l.m l.at l.initial.list l.n l.list l.i l.j
