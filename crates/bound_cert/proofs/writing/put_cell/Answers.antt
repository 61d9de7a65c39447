use Rattle.bound_cert.proofs.Put.{put-cell}
use Rattle.bound_cert.proofs.writing.put_cell.Goals as goal

pub returns : goal.returns
returns c = put-cell c.args.out.now.items c.put_i16.new.out.items c.put_i16-2.new.out.items c.put_u64.new.out.items c.args.x c.requires c.in_ok-put_i16.ensures c.in_ok-put_i16-2.ensures c.in_ok-put_u64.ensures
