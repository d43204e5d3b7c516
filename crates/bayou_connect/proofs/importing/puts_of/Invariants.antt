-- those so far, and room for all
use Rattle.std.proofs.Common.{◌≡◌, length, map, take, vec_capacity, vec_len}
use Rattle.bayou_connect.specs.Importing.{put_of}
use Rattle.bayou_connect.proofs.importing.puts_of.Given as goal

abbrev pub invariant-loop-key : goal.invariant-loop-key
invariant-loop-key l = record {
  so_far : l.puts.items ≡ map put_of (take l.key-index l.rows);
  number : vec_len l.puts ≡ l.key-index;
  room : vec_capacity l.puts ≡ length l.rows;
}
