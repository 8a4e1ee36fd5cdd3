-- The laws of joined totals, from where each is proved.
use Rattle.total.proofs.Totals.{total_agrees}
use Rattle.total.proofs.Joining.{associative, refused_alike, refused_apart, empty_left, empty_right, followed}
use Rattle.block_read.proofs.Undone.{reads_back}
use Rattle.sheet_read.proofs.Undone.{sheet_back}
use Rattle.promises.specs.Halves.{Halves}

pub halves : Halves
halves = record {
  associative = associative;
  refused_alike = refused_alike;
  sound = λ {T} logs. (total_agrees T).sound logs;
  refused_apart = refused_apart;
  empty_left = empty_left;
  empty_right = empty_right;
  followed = followed;
  reads = reads_back.reads;
  printed = reads_back.printed;
  sheet = sheet_back;
}
