use Rattle.std.proofs.Common.{◌≡◌, ◌+◌, ◌*◌, ◌≤◌, List, ℕ, arith}
use Rattle.store_image.proofs.Windowed.{read_most, front_stays, read_behind, sees_more, ended_still, is_full}
use Rattle.store_image.proofs.window.Window.fill.Goals as goal

pub returns-clause-sees : goal.returns-clause-sees
returns-clause-sees g c honest sees =
    let w = c.args.self.now in
    let file : List ℕ = (g.D.Disk.view c.args.disk.now).moments.state.now in
    let shown : List ℕ = c.as_mut_slice.result.now in
    let into : List ℕ = c.read_at.new.into in
    let count = c.min-count.result in
    let read = c.in_ok-read.read in
    let place = 4096 * c.from.result + c.from-2.result in
    let first = c.from.ensures in
    let behind = c.from-2.ensures in
    let least = c.min-count.ensures in
    let short = w.short in
    let long = w.long in
    let room : w.len + count ≤ w.bytes.len = omega (arith, least, short, long) in
    let reads = g.met.D.Disk.honest_reads c.args.disk.now honest in
    let read_is = c.in_ok-read.ensures.count file reads in
    let into_is = c.in_ok-read.ensures.bytes file reads in
    let size_is = c.as_mut_slice.ensures.len in
    let same = c.as_mut_slice.ensures.value in
    let place_is : place ≡ 4096 * w.extent.first + (w.from + w.len) = omega (arith, first, behind) in
    let most = read_most w.bytes.len w.len count read place w.bytes.items shown into file size_is same room read_is into_is in
    record {
      bytes = sees_more w count read place file least place_is most sees _ (front_stays w.bytes.len w.len count read place w.bytes.items shown into file size_is same room read_is into_is) (read_behind w.bytes.len w.len count read place w.bytes.items shown into file size_is same room read_is into_is);
      ended = ended_still w count read place file least place_is most sees;
    }

pub returns-clause-full : goal.returns-clause-full
returns-clause-full g c honest sees =
    let w = c.args.self.now in
    let file : List ℕ = (g.D.Disk.view c.args.disk.now).moments.state.now in
    let shown : List ℕ = c.as_mut_slice.result.now in
    let into : List ℕ = c.read_at.new.into in
    let count = c.min-count.result in
    let read = c.in_ok-read.read in
    let place = 4096 * c.from.result + c.from-2.result in
    let first = c.from.ensures in
    let behind = c.from-2.ensures in
    let least = c.min-count.ensures in
    let short = w.short in
    let long = w.long in
    let room : w.len + count ≤ w.bytes.len = omega (arith, least, short, long) in
    let reads = g.met.D.Disk.honest_reads c.args.disk.now honest in
    let read_is = c.in_ok-read.ensures.count file reads in
    let into_is = c.in_ok-read.ensures.bytes file reads in
    let size_is = c.as_mut_slice.ensures.len in
    let same = c.as_mut_slice.ensures.value in
    let place_is : place ≡ 4096 * w.extent.first + (w.from + w.len) = omega (arith, first, behind) in
    let most = read_most w.bytes.len w.len count read place w.bytes.items shown into file size_is same room read_is into_is in
    is_full w count read place file least place_is most sees
