use Rattle.ips_laws.proofs.answers.Left.{left_same}
use Rattle.ips_laws.proofs.answers.images.image_left_is_one.Goals as goal

pub returns : goal.returns
returns g c = λ command moment old new other next told said done again tells reads tell read seen holds claims also.
    left_same g.F.Source.outside g.S.Source.outside g.P.Spawner.running command moment old new other next told said
    (record { led = c.image_led_to_is_one.ensures; made = c.made_image_is_one.ensures; repaired = c.mended_image_is_one.ensures }) claims also tells tell reads read seen holds done again
