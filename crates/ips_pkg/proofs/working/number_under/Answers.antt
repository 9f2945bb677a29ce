use Rattle.ips_pkg.specs.Ends.{Worked}
use Rattle.ips_pkg.proofs.working.number_under.Goals as goal

pub returns-in-Ok : goal.returns-in-Ok
returns-in-Ok c = Worked (record {
  image = c.in-Ok.objects.folder;
  image_now = c.work-number.new.objects.folder;
  repository = c.in-Ok.objects.source;
  repository_now = c.work-number.new.objects.source;
  spawner = c.in-Ok.objects.spawner;
  spawner_now = c.work-number.new.objects.spawner;
  out = c.in-Ok.objects.sink;
  out_now = c.work-number.new.objects.sink;
  is_image = c.in-Ok.ensures.image;
  is_repository = c.in-Ok.ensures.repository;
  ends = c.work-number.ensures.ends;
})
