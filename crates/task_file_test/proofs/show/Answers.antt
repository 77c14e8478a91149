-- `task_file_test::show` is safe: what was written fits.
use Rattle.std.proofs.Common.{arith, length-take}
use Rattle.task_file_test.proofs.Fits.{wrote_fits}
use Rattle.task_file_test.proofs.show.Goals as goal

pub slice_bounds-out-end : goal.slice_bounds-out-end
slice_bounds-out-end g c = omega (arith, wrote_fits c.in-Ok.ensures)

pub slice_bounds-write_all-end : goal.slice_bounds-write_all-end
slice_bounds-write_all-end g c = omega (arith, wrote_fits c.in-Ok.ensures, length-take c.in-Ok.n c.write.new.out)
