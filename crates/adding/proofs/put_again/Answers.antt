-- `adding::put_again` meets its contract. Assumes nothing.
use Rattle.adding.proofs.Again.{again-inside, again-is}
use Rattle.adding.proofs.put_again.Goals as goal

pub put-requires : goal.put-requires
put-requires c =
    let word = c.word in
    let bucket = c.bucket-b in
    again-inside c.args.work.now c.args.i _ word.ensures.0 _ bucket.ensures c.requires

pub returns : goal.returns
returns c =
    let word = c.word in
    let bucket = c.bucket-b in
    let put = c.put in
    again-is c.args.work.now c.args.i _ word.ensures.0 _ bucket.ensures _ put.ensures
