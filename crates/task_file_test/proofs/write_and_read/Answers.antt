-- `task_file_test::write_and_read` is safe: what was written fits.
use Rattle.std.proofs.Common.{arith, length-take}
use Rattle.task_file_test.proofs.Fits.{wrote_fits}
use Rattle.task_file_test.proofs.write_and_read.Goals as goal

pub slice_bounds-print_verdict-end : goal.slice_bounds-print_verdict-end
slice_bounds-print_verdict-end g c = omega (arith, wrote_fits c.in-Ok.ensures)

pub slice_bounds-print_verdict-end-in-Ok : goal.slice_bounds-print_verdict-end-in-Ok
slice_bounds-print_verdict-end-in-Ok g c = omega (arith, wrote_fits c.in-Ok.ensures, length-take c.in-Ok.n c.write.new.out)
