use Rattle.ips_steps.proofs.Owing as owing
use Rattle.ips_steps.proofs.laws.private_touched.Goals as goal

pub returns : goal.returns
returns c = record {
  seen = owing.private_seen;
  old = λ text s left a p may shut. owing.private_old text s p left a may shut;
  new = λ text s left b due p may shut. owing.private_new text s p left b due may shut;
  folder_old = λ text s a p shut off. owing.folder_old text s p shut off a;
  folder_new = λ text s b due p shut off. owing.folder_new text s p shut off b due;
}
