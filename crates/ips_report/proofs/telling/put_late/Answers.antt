use Rattle.ips_report.proofs.telling.put_late.Goals as goal

pub returns-in-Recovered-clause-text : goal.returns-in-Recovered-clause-text
returns-in-Recovered-clause-text c = rw c.in-Recovered.is c.put_recovered.ensures.text

pub returns-in-BadJournal-clause-text : goal.returns-in-BadJournal-clause-text
returns-in-BadJournal-clause-text c = rw c.in-BadJournal.is c.put_numbered.ensures.text

pub returns-in-SpawnFault-clause-text : goal.returns-in-SpawnFault-clause-text
returns-in-SpawnFault-clause-text c = rw c.in-SpawnFault.is c.put_spawn.ensures.text

pub returns-in-FolderFault-clause-text : goal.returns-in-FolderFault-clause-text
returns-in-FolderFault-clause-text c = rw c.in-FolderFault.is c.put_folder.ensures.text
