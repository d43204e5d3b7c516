-- a session for each share so far
use Rattle.std.proofs.Common.{◌≡◌, ◌+◌, length, vec_len}
use Rattle.bayou_socket_run.proofs.sockets.sessions_of.Given as goal

abbrev pub invariant-loop-share : goal.invariant-loop-share
invariant-loop-share g l = vec_len l.sessions + length l.share-iterator.rest.items ≡ vec_len l.fn.shares
